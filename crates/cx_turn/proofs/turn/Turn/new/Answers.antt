use Rattle.std.proofs.Common.{ℕ, ◌∙◌, ◌≡◌, ◌∷◌, [], ◌++◌, ◌+◌, ◌<◌, ◌^◌, List, ap, sym, refl, subst, arith}
use Rattle.atomic_table.specs.Table.{opening}
use Rattle.cx_turn.specs.declared.view.Desk.{Desk}
use Rattle.cx_turn.specs.declared.view.Desk.TheVariants.{Home}
use Rattle.cx_turn.specs.Turning.{Turns}
use Rattle.cx_turn.specs.Views.{opening_view}
use Rattle.cx_turn.proofs.Partings.{opens}
use Rattle.cx_turn.proofs.Known.{known_opening}
use Rattle.cx_turn.proofs.turn.Turn.new.Goals as goal

pub new-requires : goal.new-requires
new-requires g c =
    let items : ◌≡◌ {A = List (Desk g.row.S.Denot)} (Home c.args.value ∷ []) c.push.new.self.items = sym (c.in_ok-push.ensures.items ∙ ap (λ (xs : List (Desk g.row.S.Denot)). xs ++ Home c.args.value ∷ []) c.new-slots.ensures.items) in
    let m = g.S.Machine.meaning in
    let P : g.row.S.Denot → List (Desk g.row.S.Denot) → Type 0 = λ k xs. Turns m g.S.Machine.fits g.M.Meaning (m k) c.args.seats (opening c.deref.result.now xs (opening_view (m k) c.args.seats c.args.calls (g.M.Meaning.pool (m k)))) in
    let few : c.args.calls + g.M.Meaning.debt (m c.args.value) < 2 ^ 28 = (let a = c.requires.calls in omega arith) in
    subst (λ xs. P c.of.result.value xs) items
    (subst (λ k. P k (Home c.args.value ∷ [])) (sym c.of.ensures) (opens m g.S.Machine.fits g.M.Meaning c.args.value c.args.seats c.args.calls c.deref.result.now (c.deref.ensures.value ∙ c.in_ok-words.ensures) c.requires.seats.0 few (subst (λ (n : ℕ). n < 2 ^ 32) c.pool-share.ensures c.pool-share.type_inv) c.requires.fits))

pub returns-clause-pass : goal.returns-clause-pass
returns-clause-pass g c =
    let m = g.S.Machine.meaning in
    let few : c.args.calls + g.M.Meaning.debt (m c.args.value) < 2 ^ 28 = (let a = c.requires.calls in omega arith) in record {
      table = c.into_badge.ensures.0 ∙ c.in-Ok.ensures.ok.2;
      views = c.into_badge.ensures.2 ∙ (ap (λ x. x.0 ∷ []) c.in-Ok.ensures.ok.4 ∙ ap (λ k. opening_view (m k) c.args.seats c.args.calls (g.M.Meaning.pool (m k)) ∷ []) c.of.ensures);
      live = refl;
      counts = refl;
      idle = refl;
      started = sym (ap (λ k. m k.state.value) c.in-Ok.ensures.ok.5 ∙ ap m c.of.ensures);
      seated = sym (ap (λ k. k.seats) c.in-Ok.ensures.ok.5);
      numbered = refl;
      splits = refl;
      counted = record { counted = refl; may = refl; part = sym c.pool-share.ensures };
      known = known_opening g.M.Meaning (m c.args.value) c.args.seats c.args.calls c.requires.seats.0 few (subst (λ (n : ℕ). n < 2 ^ 32) c.pool-share.ensures c.pool-share.type_inv);
    }
