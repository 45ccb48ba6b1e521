-- The forms are tried one after the other.
use Rattle.std.proofs.Common.{◌≡◌, ℕ, ◌+◌, ◌<◌, List, ◌∷◌, length, get_or, drop, Option, Some, None, refl, sym, ap, subst, ◌∙◌, add-one, drop-cons}
use Rattle.cx_scene.specs.Scene.{Scene}
use Rattle.cx_items.specs.declared.item.Item.{Item}
use Rattle.cx_items.specs.declared.form.Form.{Form}
use Rattle.cx_replay.specs.Schedule.{Thing, Runner, World, Made, made, or_made, first_made}
use Rattle.cx_replay.specs.Views.{Makes}

abbrev world : List Thing → List (Option Runner) → World
world things rs = record { things = things; runners = rs }

pub here : (s : Scene) (w : World) (t : ℕ) (fs : List Form) (i : ℕ) (d : Form) → i < length fs → first_made s w t (drop i fs) ≡ or_made (made s w t (get_or fs i d)) (first_made s w t (drop (i + 1) fs))
here s w t fs i d lt = let there : drop i fs ≡ get_or fs i d ∷ drop (i + 1) fs = rw add-one (drop-cons fs i d lt) in rw there refl

module _ (s : Scene) (rs : List (Option Runner)) (t : ℕ) (fs : List Form) (i : ℕ) (d : Form) (old now new : List Thing) (o : Option Item) (lt : i < length fs) (same : now ≡ old) (makes : Makes o (made s (world now rs) t (get_or fs i d)) now new) (so_far : first_made s (world old rs) t (drop i fs) ≡ first_made s (world old rs) t fs) where
  abbrev rest : Option Made
  rest = first_made s (world old rs) t (drop (i + 1) fs)

  pub first_here : (x : Item) → o ≡ Some x → first_made s (world old rs) t fs ≡ Some (record { item = x; things = new })
  first_here x is =
      let m = subst (λ (v : Option Item). Makes v (made s (world now rs) t (get_or fs i d)) now new) is makes in
      let one : made s (world old rs) t (get_or fs i d) ≡ Some (record { item = x; things = new }) = ap (λ (v : List Thing). made s (world v rs) t (get_or fs i d)) (sym same) ∙ m in
      sym so_far ∙ (here s (world old rs) t fs i d lt ∙ ap (λ v. or_made v rest) one)

  pub first_later : o ≡ None → (new ≡ old) × (first_made s (world old rs) t (drop (i + 1) fs) ≡ first_made s (world old rs) t fs)
  first_later is =
      let m = subst (λ (v : Option Item). Makes v (made s (world now rs) t (get_or fs i d)) now new) is makes in
      let none : made s (world old rs) t (get_or fs i d) ≡ None = ap (λ (v : List Thing). made s (world v rs) t (get_or fs i d)) (sym same) ∙ m.0 in
      (m.1 ∙ same, sym (ap (λ v. or_made v rest) none) ∙ (sym (here s (world old rs) t fs i d lt) ∙ so_far))
