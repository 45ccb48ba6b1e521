-- What an arrival and the completion after it made of a pass together.
use Rattle.std.proofs.Common.{◌≡◌, ◌∙◌, ℕ, pos, false, Option, Some, None, IsSome, IfSome, is_some, refl, sym, ap, subst}
use Rattle.cx_names.specs.declared.ThreadNo.{ThreadNo}
use Rattle.cx_names.specs.declared.Reply.TheVariants as replies
use Rattle.cx_machine.specs.declared.kind.Entry.{Entry}
use Rattle.cx_machine.specs.declared.kind.Op.TheVariants as ops
use Rattle.cx_machine.specs.Meaning.{change}
use Rattle.cx_machine.specs.Barrier as machine
use Rattle.cx_turn.specs.declared.view.View.{View}
use Rattle.cx_turn.specs.Acts.{Makes}
use Rattle.cx_barrier.specs.declared.barrier.Barrier.{Barrier}
use Rattle.cx_barrier.specs.declared.pass.BarrierPass.{BarrierPass}
use Rattle.cx_barrier.specs.declared.acts.Counted.{Counted}
use Rattle.cx_barrier.specs.declared.calls.Arrived.{Arrived}
use Rattle.cx_barrier.specs.Kinds.{meeting}
use Rattle.cx_barrier.specs.Barriers.{IsBarrierPassWith, Counts}
use Rattle.cx_barrier.specs.Arriving.{completion_by, Ends, Went, Arrives}

none_of : {A : Type 0} (o : Option A) → is_some o ≡ false → o ≡ None
none_of None e = refl
none_of (Some x) e = cc e

-- what is so of the number that is there
pub if_there : {A : Type 0} (P : A → Type 0) (o : Option A) (x : A) → o ≡ Some x → P x → IfSome o P
if_there P o x is p = subst (λ (z : Option _). IfSome z P) (sym is) p

pub record There {A : Type 0} (P : A → Type 0) (o : Option A) : Type 0 where
  pub number : A
  pub is : o ≡ Some number
  pub holds : P number

pub there : {A : Type 0} (P : A → Type 0) (o : Option A) → IsSome o → IfSome o P → There P o
there P (Some x) is p = record { number = x; is = refl; holds = p }
there P None is p = cc is

-- a pass that made a change acts as the same thread
pub same_thread : (b : Barrier) (p q : BarrierPass) (v w : View machine.Barrier) (e : Entry) (n : ℕ) → IsBarrierPassWith b p v → IsBarrierPassWith b q w → Makes meeting v w e n → q.pass.number ≡ p.pass.number
same_thread b p q v w e n is is' made =
    let same : q.pass.number.0 ≡ p.pass.number.0 = sym is'.pass.numbered ∙ (ap (λ (x : View machine.Barrier). x.number) made.view ∙ is.pass.numbered) in
    λ i. record { 0 = same i }

pub arrives : (b : Barrier) (p p1 q : BarrierPass) (e : Entry) (t : Counted) (completed : Option ℕ) (a : Arrived) → a.at ≡ t.at → a.completed ≡ completed → Counts b p p1 e t → is_some completed ≡ is_some t.completing → Ends b p1 q completed → Arrives b p q e a
arrives b p p1 q e t completed a place end counts last ended v is = subst (λ (x : ℕ × Option ℕ). (w : View machine.Barrier) × IsBarrierPassWith b q w × Went v w e (completion_by p) x.0 x.1) (λ i. (sym place i, sym end i)) (by_cases completed last ended)
  where
    by_cases : (o : Option ℕ) → is_some o ≡ is_some t.completing → Ends b p1 q o → (w : View machine.Barrier) × IsBarrierPassWith b q w × Went v w e (completion_by p) t.at o
    by_cases None l same =
        let d = counts.1 v is in
        (d.0, subst (λ (x : BarrierPass). IsBarrierPassWith b x d.0) (sym same) d.1, (d.2.0, none_of d.2.0.after.completing (d.2.1 ∙ sym l)))
    by_cases (Some m) l made =
        let d = counts.1 v is in
        let f = made d.0 d.1 in
        (f.0, f.1, (d.0, d.2.0, subst (λ (x : ThreadNo). Makes meeting d.0 f.0 (change x ops.Complete (pos 0) (pos 0) replies.Ok) m) (same_thread b p p1 v d.0 e t.at is d.1 d.2.0) f.2))

-- so it is after an arrival, also where the phase was completed then
pub went_on : (b : Barrier) (p q : BarrierPass) (v w : View machine.Barrier) (e c : Entry) (n : ℕ) (completed : Option ℕ) → IsBarrierPassWith b p v → IsBarrierPassWith b q w → Went v w e c n completed → q.pass.number ≡ p.pass.number
went_on b p q v w e c n completed is is' went =
    let same : q.pass.number.0 ≡ p.pass.number.0 = sym is'.pass.numbered ∙ (number completed went ∙ is.pass.numbered) in
    λ i. record { 0 = same i }
  where
    number : (o : Option ℕ) → Went v w e c n o → w.number ≡ v.number
    number None d = ap (λ (x : View machine.Barrier). x.number) d.0.view
    number (Some m) d = ap (λ (x : View machine.Barrier). x.number) d.2.view ∙ ap (λ (x : View machine.Barrier). x.number) d.1.view
