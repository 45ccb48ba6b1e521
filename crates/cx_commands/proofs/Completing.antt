-- Where no count of faults rises, the status is that of the replay or of the first fault, or memory ran out.
use Rattle.std.proofs.Common.{◌≡◌, ◌≢◌, ℕ, zero, suc, ◌+◌, true, false, List, [], ◌∷◌, take, Option, Some, None, refl, sym, ap, subst, ◌∙◌, inl, inr}
use Rattle.std.specs.Prelude.{IfSome, Result, Ok, Err, option_and_then}
use Rattle.cx_io.specs.Edge.{IsRead}
use Rattle.cx_text.specs.declared.fault.Fault.{Fault}
use Rattle.cx_scene.specs.Scene.{Scene}
use Rattle.cx_script.specs.Script.{Script, meaning}
use Rattle.cx_script.specs.Numbered.{numbered}
use Rattle.cx_replay.specs.Schedule.{Turn, Replays, Replayed, turn, turns, replayed}
use Rattle.cx_run.specs.declared.scenario.Fronts.{Fronts}
use Rattle.cx_run.specs.Runs.{Tally}
use Rattle.cx_commands.specs.Top.{limit, IsReplayed, IsStuck, IsFaulty, Took, TookFront, OfRead}
use Rattle.cx_commands.specs.Built.{is_built}
use Rattle.cx_commands.specs.Running.{IsRun, RunsDone, RunsUnwritten, IsNotBuilt, CompletesRun, CompletesUnbuilt}
use Rattle.cx_commands.specs.Complete.{status_with, CompletesReplay, CompletesFault}
use Rattle.cx_command_line.specs.declared.command.Command.{Command}
use Rattle.cx_commands.specs.declared.status.Status.{Status}
use Rattle.cx_commands.specs.declared.status.Status.TheVariants as status

-- ---- a replay has one end

one_end : (n m : ℕ) (s : Scene) (w a b : Turn) → turns n s w ≡ Some a → turn s a ≡ None → turns m s w ≡ Some b → turn s b ≡ None → a ≡ b
one_end zero zero s w a b h k i j = let x : w ≡ a = cc in let y : w ≡ b = cc in sym x ∙ y
one_end zero (suc m) s w a b h k i j =
    let x : w ≡ a = cc in
    let over : turn s w ≡ None = ap (turn s) x ∙ k in
    absurd (let bad : None ≡ Some b = rw over at i in cc)
one_end (suc n) zero s w a b h k i j =
    let y : w ≡ b = cc in
    let over : turn s w ≡ None = ap (turn s) y ∙ j in
    absurd (let bad : None ≡ Some a = rw over at h in cc)
one_end (suc n) (suc m) s w a b h k i j = by_turn (turn s w) h i (λ v hv iv. one_end n m s v a b hv k iv j)
  where
    by_turn : (o : Option Turn) → option_and_then (turns n s) o ≡ Some a → option_and_then (turns m s) o ≡ Some b → ((v : Turn) → turns n s v ≡ Some a → turns m s v ≡ Some b → a ≡ b) → a ≡ b
    by_turn None h i f = absurd cc
    by_turn (Some v) h i f = f v h i

live_are : (s : Scene) (seed : Option ℕ) (a b : Replayed) → Replays s seed a → Replays s seed b → a.live ≡ b.live
live_are s seed a b p q =
    let last : p.last ≡ q.last = one_end p.count q.count s _ p.last q.last p.run p.over q.run q.over in
    ap (λ (e : Replayed). e.live) (p.result ∙ ap (replayed s) last ∙ sym q.result)

-- ---- the bytes that are told have one meaning

abbrev ok_of : Script → Result Script Fault
ok_of s = Ok s

abbrev err_of : Fault → Result Script Fault
err_of f = Err f

ok_is : (s t : Script) → ok_of s ≡ ok_of t → s ≡ t
ok_is s t e = cc

ok_err : (s : Script) (f : Fault) → ok_of s ≡ err_of f → ⊥
ok_err s f e = cc

one_meaning : (left : Option (List ℕ)) (bytes all : List ℕ) (a b : Result Script Fault) → left ≡ Some all → IsRead limit left bytes → meaning limit bytes ≡ a → meaning limit (take (limit + 1) all) ≡ b → a ≡ b
one_meaning left bytes all a b told read ma mb =
    let same : bytes ≡ take (limit + 1) all = subst (λ (o : Option (List ℕ)). IfSome o (λ x. bytes ≡ take (limit + 1) x)) told read.told in
    sym ma ∙ ap (meaning limit) same ∙ mb

-- ---- the status

stuck_with : (live : List ℕ) → live ≢ [] → status.Stuck ≡ status_with live
stuck_with [] some = absurd (some refl)
stuck_with (t ∷ ts) some = refl

ends_done : (seed : Option ℕ) (left : Option (List ℕ)) (W : List ℕ → Type 0) (text : List ℕ) (s : Script) (e : Replayed) → left ≡ Some text → meaning limit (take (limit + 1) text) ≡ Ok s → Replays (numbered s) seed e
    → OfRead limit left (IsReplayed seed) W → status.Done ≡ status_with e.live
ends_done seed left W text s e told means ends h =
    let same : h.says.script ≡ s = ok_is h.says.script s (one_meaning left h.bytes text (ok_of h.says.script) (ok_of s) told h.read h.says.means means) in
    let mine : Replays (numbered h.says.script) seed e = subst (λ (x : Script). Replays (numbered x) seed e) (sym same) ends in
    ap status_with (live_are (numbered h.says.script) seed _ e h.says.ends.ends mine)

ends_stuck : (seed : Option ℕ) (left : Option (List ℕ)) (W : List ℕ → Type 0) (text : List ℕ) (s : Script) (e : Replayed) → left ≡ Some text → meaning limit (take (limit + 1) text) ≡ Ok s → Replays (numbered s) seed e
    → OfRead limit left (IsStuck seed) W → status.Stuck ≡ status_with e.live
ends_stuck seed left W text s e told means ends h =
    let same : h.says.script ≡ s = ok_is h.says.script s (one_meaning left h.bytes text (ok_of h.says.script) (ok_of s) told h.read h.says.means means) in
    let mine : Replays (numbered h.says.script) seed e = subst (λ (x : Script). Replays (numbered x) seed e) (sym same) ends in
    stuck_with h.says.stuck.live h.says.stuck.some_live ∙ ap status_with (live_are (numbered h.says.script) seed _ e h.says.stuck.ends mine)

never_faulty : (left : Option (List ℕ)) (W : List ℕ → Type 0) (text : List ℕ) (s : Script) → left ≡ Some text → meaning limit (take (limit + 1) text) ≡ Ok s → OfRead limit left IsFaulty W → ⊥
never_faulty left W text s told means h = ok_err s h.says.fault (sym (one_meaning left h.bytes text (err_of h.says.fault) (ok_of s) told h.read h.says.means means))

never_replayed : (seed : Option ℕ) (left : Option (List ℕ)) (W : List ℕ → Type 0) (text : List ℕ) (f : Fault) → left ≡ Some text → meaning limit (take (limit + 1) text) ≡ Err f → OfRead limit left (IsReplayed seed) W → ⊥
never_replayed seed left W text f told means h = ok_err h.says.script f (one_meaning left h.bytes text (ok_of h.says.script) (err_of f) told h.read h.says.means means)

never_stuck : (seed : Option ℕ) (left : Option (List ℕ)) (W : List ℕ → Type 0) (text : List ℕ) (f : Fault) → left ≡ Some text → meaning limit (take (limit + 1) text) ≡ Err f → OfRead limit left (IsStuck seed) W → ⊥
never_stuck seed left W text f told means h = ok_err h.says.script f (one_meaning left h.bytes text (ok_of h.says.script) (err_of f) told h.read h.says.means means)

pub completes_replay : (seed : Option ℕ) (left : Option (List ℕ)) (W V U : List ℕ → Type 0) (r : Status) → (r ≡ status.Done → OfRead limit left (IsReplayed seed) W) → (r ≡ status.Stuck → OfRead limit left (IsStuck seed) V)
    → (r ≡ status.BadScenario → OfRead limit left IsFaulty U) → (r ≡ status.ReadFault → ⊥) → (r ≡ status.WriteFault → ⊥) → (r ≡ status.BadWords → ⊥) → (r ≡ status.Illegal → ⊥) → (r ≡ status.NotBuilt → ⊥) → CompletesReplay seed left r
completes_replay seed left W V U status.Done done stuck faulty rf wf bw il nb = λ text s e told means ends. inl (ends_done seed left W text s e told means ends (done refl))
completes_replay seed left W V U status.Stuck done stuck faulty rf wf bw il nb = λ text s e told means ends. inl (ends_stuck seed left V text s e told means ends (stuck refl))
completes_replay seed left W V U status.BadScenario done stuck faulty rf wf bw il nb = λ text s e told means ends. absurd (never_faulty left U text s told means (faulty refl))
completes_replay seed left W V U status.NoMemory done stuck faulty rf wf bw il nb = λ text s e told means ends. inr refl
completes_replay seed left W V U status.ReadFault done stuck faulty rf wf bw il nb = absurd (rf refl)
completes_replay seed left W V U status.WriteFault done stuck faulty rf wf bw il nb = absurd (wf refl)
completes_replay seed left W V U status.BadWords done stuck faulty rf wf bw il nb = absurd (bw refl)
completes_replay seed left W V U status.Illegal done stuck faulty rf wf bw il nb = absurd (il refl)
completes_replay seed left W V U status.NotBuilt done stuck faulty rf wf bw il nb = absurd (nb refl)

pub completes_fault : (seed : Option ℕ) (left : Option (List ℕ)) (W V U : List ℕ → Type 0) (r : Status) → (r ≡ status.Done → OfRead limit left (IsReplayed seed) W) → (r ≡ status.Stuck → OfRead limit left (IsStuck seed) V)
    → (r ≡ status.WriteFault → OfRead limit left (IsReplayed seed) U) → (r ≡ status.ReadFault → ⊥) → (r ≡ status.BadWords → ⊥) → (r ≡ status.Illegal → ⊥) → (r ≡ status.NotBuilt → ⊥) → CompletesFault left r
completes_fault seed left W V U status.Done done stuck written rf bw il nb = λ text f told means. absurd (never_replayed seed left W text f told means (done refl))
completes_fault seed left W V U status.Stuck done stuck written rf bw il nb = λ text f told means. absurd (never_stuck seed left V text f told means (stuck refl))
completes_fault seed left W V U status.WriteFault done stuck written rf bw il nb = λ text f told means. absurd (never_replayed seed left U text f told means (written refl))
completes_fault seed left W V U status.BadScenario done stuck written rf bw il nb = λ text f told means. inl refl
completes_fault seed left W V U status.NoMemory done stuck written rf bw il nb = λ text f told means. inr refl
completes_fault seed left W V U status.ReadFault done stuck written rf bw il nb = absurd (rf refl)
completes_fault seed left W V U status.BadWords done stuck written rf bw il nb = absurd (bw refl)
completes_fault seed left W V U status.Illegal done stuck written rf bw il nb = absurd (il refl)
completes_fault seed left W V U status.NotBuilt done stuck written rf bw il nb = absurd (nb refl)

-- ---- a run

-- the bytes that are told mean one scenario
one_script : (left : Option (List ℕ)) (bytes text : List ℕ) (s t : Script) → left ≡ Some text → IsRead limit left bytes → meaning limit bytes ≡ Ok s → meaning limit (take (limit + 1) text) ≡ Ok t → s ≡ t
one_script left bytes text s t told read here there = ok_is s t (one_meaning left bytes text (ok_of s) (ok_of t) told read here there)

two_tests : (s t : Script) → s ≡ t → is_built s ≡ true → is_built t ≡ false → ⊥
two_tests s t e h k = let q : is_built s ≡ is_built t = ap is_built e in let r : true ≡ false = sym h ∙ q ∙ k in cc

never_unbuilt : (left : Option (List ℕ)) (text : List ℕ) (s : Script) → left ≡ Some text → meaning limit (take (limit + 1) text) ≡ Ok s → is_built s ≡ true → IsNotBuilt left → ⊥
never_unbuilt left text s told means built h =
    two_tests s h.says.script (sym (one_script left h.bytes text h.says.script s told h.read h.says.means means)) built h.says.unbuilt

never_bad : (left : Option (List ℕ)) (text : List ℕ) (f : Fault) → left ≡ Some text → meaning limit (take (limit + 1) text) ≡ Err f → IsNotBuilt left → ⊥
never_bad left text f told means h = ok_err h.says.script f (one_meaning left h.bytes text (ok_of h.says.script) (err_of f) told h.read h.says.means means)

-- a run of which this was written, of the bytes read
abbrev RunsTo : Option (List ℕ) → Tally → Tally → Fronts → (List ℕ → Type 0) → Type 0
RunsTo left old new fronts W = OfRead limit left (IsRun old new fronts) W

unbuilt_never_runs : (left : Option (List ℕ)) (old new : Tally) (fronts : Fronts) (W : List ℕ → Type 0) (text : List ℕ) (s : Script) → left ≡ Some text → meaning limit (take (limit + 1) text) ≡ Ok s → is_built s ≡ false → RunsTo left old new fronts W → ⊥
unbuilt_never_runs left old new fronts W text s told means unbuilt h =
    two_tests h.says.script s (one_script left h.bytes text h.says.script s told h.read h.says.means means) h.says.built unbuilt

bad_never_runs : (left : Option (List ℕ)) (old new : Tally) (fronts : Fronts) (W : List ℕ → Type 0) (text : List ℕ) (f : Fault) → left ≡ Some text → meaning limit (take (limit + 1) text) ≡ Err f → RunsTo left old new fronts W → ⊥
bad_never_runs left old new fronts W text f told means h = ok_err h.says.script f (one_meaning left h.bytes text (ok_of h.says.script) (err_of f) told h.read h.says.means means)

-- main's accesses are there where a run is done
done_has : (fronts : Option Fronts) (left before after : Option (List ℕ)) (old new : Tally) → RunsDone fronts left before after old new → (f : Fronts) × RunsTo left old new f (Took before after)
done_has None left before after old new h = absurd h
done_has (Some f) left before after old new h = (f, h)

pub completes_run : (left : Option (List ℕ)) (W : List ℕ → Type 0) (r : Status) → (r ≡ status.NotBuilt → IsNotBuilt left) → (r ≡ status.BadScenario → OfRead limit left IsFaulty W) → (r ≡ status.ReadFault → ⊥) → (r ≡ status.WriteFault → ⊥)
    → (r ≡ status.BadWords → ⊥) → (r ≡ status.Illegal → ⊥) → (r ≡ status.Stuck → ⊥) → CompletesRun left r
completes_run left W status.Done unbuilt faulty rf wf bw il st = λ text s told means built. inl refl
completes_run left W status.NoMemory unbuilt faulty rf wf bw il st = λ text s told means built. inr refl
completes_run left W status.NotBuilt unbuilt faulty rf wf bw il st = λ text s told means built. absurd (never_unbuilt left text s told means built (unbuilt refl))
completes_run left W status.BadScenario unbuilt faulty rf wf bw il st = λ text s told means built. absurd (never_faulty left W text s told means (faulty refl))
completes_run left W status.ReadFault unbuilt faulty rf wf bw il st = absurd (rf refl)
completes_run left W status.WriteFault unbuilt faulty rf wf bw il st = absurd (wf refl)
completes_run left W status.BadWords unbuilt faulty rf wf bw il st = absurd (bw refl)
completes_run left W status.Illegal unbuilt faulty rf wf bw il st = absurd (il refl)
completes_run left W status.Stuck unbuilt faulty rf wf bw il st = absurd (st refl)

pub completes_unbuilt : (fronts : Option Fronts) (left before after : Option (List ℕ)) (old new : Tally) (W : List ℕ → Type 0) (r : Status) → (r ≡ status.Done → RunsDone fronts left before after old new)
    → (r ≡ status.WriteFault → RunsUnwritten left before after old new) → (r ≡ status.BadScenario → OfRead limit left IsFaulty W) → (r ≡ status.ReadFault → ⊥) → (r ≡ status.BadWords → ⊥) → (r ≡ status.Illegal → ⊥) → (r ≡ status.Stuck → ⊥)
    → CompletesUnbuilt left r
completes_unbuilt fronts left before after old new W status.Done done written faulty rf bw il st = λ text s told means unbuilt. let h = done_has fronts left before after old new (done refl) in absurd (unbuilt_never_runs left old new h.0 (Took before after) text s told means unbuilt h.1)
completes_unbuilt fronts left before after old new W status.WriteFault done written faulty rf bw il st = λ text s told means unbuilt. let h = written refl in absurd (unbuilt_never_runs left old new h.0 (TookFront before after) text s told means unbuilt h.1)
completes_unbuilt fronts left before after old new W status.BadScenario done written faulty rf bw il st = λ text s told means unbuilt. absurd (never_faulty left W text s told means (faulty refl))
completes_unbuilt fronts left before after old new W status.NotBuilt done written faulty rf bw il st = λ text s told means unbuilt. inl refl
completes_unbuilt fronts left before after old new W status.NoMemory done written faulty rf bw il st = λ text s told means unbuilt. inr refl
completes_unbuilt fronts left before after old new W status.ReadFault done written faulty rf bw il st = absurd (rf refl)
completes_unbuilt fronts left before after old new W status.BadWords done written faulty rf bw il st = absurd (bw refl)
completes_unbuilt fronts left before after old new W status.Illegal done written faulty rf bw il st = absurd (il refl)
completes_unbuilt fronts left before after old new W status.Stuck done written faulty rf bw il st = absurd (st refl)

pub completes_bad : (fronts : Option Fronts) (left before after : Option (List ℕ)) (old new : Tally) (r : Status) → (r ≡ status.Done → RunsDone fronts left before after old new)
    → (r ≡ status.WriteFault → RunsUnwritten left before after old new) → (r ≡ status.NotBuilt → IsNotBuilt left) → (r ≡ status.ReadFault → ⊥) → (r ≡ status.BadWords → ⊥) → (r ≡ status.Illegal → ⊥) → (r ≡ status.Stuck → ⊥)
    → CompletesFault left r
completes_bad fronts left before after old new status.Done done written unbuilt rf bw il st = λ text f told means. let h = done_has fronts left before after old new (done refl) in absurd (bad_never_runs left old new h.0 (Took before after) text f told means h.1)
completes_bad fronts left before after old new status.WriteFault done written unbuilt rf bw il st = λ text f told means. let h = written refl in absurd (bad_never_runs left old new h.0 (TookFront before after) text f told means h.1)
completes_bad fronts left before after old new status.NotBuilt done written unbuilt rf bw il st = λ text f told means. absurd (never_bad left text f told means (unbuilt refl))
completes_bad fronts left before after old new status.BadScenario done written unbuilt rf bw il st = λ text f told means. inl refl
completes_bad fronts left before after old new status.NoMemory done written unbuilt rf bw il st = λ text f told means. inr refl
completes_bad fronts left before after old new status.ReadFault done written unbuilt rf bw il st = absurd (rf refl)
completes_bad fronts left before after old new status.BadWords done written unbuilt rf bw il st = absurd (bw refl)
completes_bad fronts left before after old new status.Illegal done written unbuilt rf bw il st = absurd (il refl)
completes_bad fronts left before after old new status.Stuck done written unbuilt rf bw il st = absurd (st refl)

-- ---- the words

abbrev asked : Command → Option Command
asked k = Some k

pub command_is : (a b : Command) → asked a ≡ asked b → a ≡ b
command_is a b e = cc
