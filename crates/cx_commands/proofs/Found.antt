-- What a check finds of a text, from what is found of its parts.
use Rattle.std.proofs.Common.{◌≡◌, ℕ, ◌+◌, ◌-◌, List, take, drop, Option, Some, None, refl, sym, ap, subst, ◌∙◌, inl, inr}
use Rattle.std.specs.Prelude.{IfSome, IfOk, Result, Ok, Err, ◌≢◌}
use Rattle.cx_names.specs.declared.errors.NoMemory.{NoMemory}
use Rattle.cx_io.specs.Edge.{IsRead}
use Rattle.cx_text.specs.declared.fault.Fault.{Fault}
use Rattle.cx_text.specs.Lines.{lines_of}
use Rattle.cx_script.specs.Faults.{first_fault}
use Rattle.cx_script.specs.Script.{Script}
use Rattle.cx_script.specs.Numbered.{numbered}
use Rattle.cx_scenario.specs.Front.{front_lines, IsFront}
use Rattle.cx_history.specs.declared.flaw.Flaw.{Flaw}
use Rattle.cx_history.specs.Histories.{Recorded}
use Rattle.cx_history.specs.IsRecord.{IsRecord}
use Rattle.cx_history.specs.Flaw.{first_flaw}
use Rattle.cx_history.proofs.Sound.{sound}
use Rattle.cx_record.specs.Checked.{Checked, whole_meaning}
use Rattle.cx_record.proofs.Checkings.{whole_found, whole_bad}
use Rattle.cx_commands.specs.FaultLine.{fault_line}
use Rattle.cx_commands.specs.Top.{OfRead}
use Rattle.cx_commands.specs.Checks.{input_limit, IsFoundLegal, IsFoundIllegal, IsFoundFaulty, status_of, CompletesCheck, CompletesCheckFault}
use Rattle.cx_commands.specs.Findings.{IsFlawless, FindsRest, FindsText}
use Rattle.cx_commands.specs.declared.checking.Finding.{Finding}
use Rattle.cx_commands.specs.declared.checking.Finding.TheVariants as findings
use Rattle.cx_commands.specs.declared.status.Status.{Status}
use Rattle.cx_commands.specs.declared.status.Status.TheVariants as status

-- ---- of a record

pub flawless : (s : Script) (r : Recorded) → IsRecord (numbered s) r → first_flaw (numbered s) r ≡ None → IsFlawless s r
flawless s r h e = let p = sound (numbered s) r h.count e in record { flawless = e; legal = p.0; follows = p.1 }

-- ---- of a text

pub found_text : (f : Finding) (text : List ℕ) (s : Script) (len next : ℕ) → IsFront input_limit text s len next → FindsRest f s next (input_limit - len) (drop len text) → FindsText f text
found_text findings.Legal text s len next h p =
    record {
      checked = record { script = s; recorded = p.recorded };
      means = whole_found input_limit text s len next (Ok p.recorded) h p.is;
      flawless = p.finds_it.flawless;
      legal = p.finds_it.legal;
      follows = p.finds_it.follows;
      text_is = refl;
    }
found_text (findings.Illegal line) text s len next h p =
    record {
      checked = record { script = s; recorded = p.recorded };
      flaw = p.finds_it.0;
      means = whole_found input_limit text s len next (Ok p.recorded) h p.is;
      first = p.finds_it.1;
      text_is = p.finds_it.2;
    }
found_text (findings.Faulty line) text s len next h p =
    record { fault = p.fault; means = whole_found input_limit text s len next (Err p.fault) h p.is; text_is = p.line_is }

pub found_rest : (r : Result Finding NoMemory) (text rest : List ℕ) (s : Script) (len next room : ℕ) → IsFront input_limit text s len next → rest ≡ drop len text → room ≡ input_limit - len
    → IfOk r (λ f. FindsRest f s next room rest) → IfOk r (λ f. FindsText f text)
found_rest (Ok f) text rest s len next room h e k p = found_text f text s len next h (subst (λ (x : List ℕ). FindsRest f s next (input_limit - len) x) e (subst (λ (n : ℕ). FindsRest f s next n rest) k p))
found_rest (Err x) text rest s len next room h e k p = tt

pub bad_text : (text line : List ℕ) (f : Fault) → first_fault (front_lines (lines_of input_limit text)) ≡ Some f → line ≡ fault_line f → IsFoundFaulty text line
bad_text text line f h e = record { fault = f; means = whole_bad input_limit text f h; text_is = e }

-- ---- the bytes that are told have one meaning

abbrev ok_of : Checked → Result Checked Fault
ok_of x = Ok x

abbrev err_of : Fault → Result Checked Fault
err_of f = Err f

ok_is : (x y : Checked) → ok_of x ≡ ok_of y → x ≡ y
ok_is x y e = cc

ok_err : (x : Checked) (f : Fault) → ok_of x ≡ err_of f → ⊥
ok_err x f e = cc

one_meaning : (left : Option (List ℕ)) (bytes all : List ℕ) (a b : Result Checked Fault) → left ≡ Some all → IsRead input_limit left bytes → whole_meaning input_limit bytes ≡ a → whole_meaning input_limit (take (input_limit + 1) all) ≡ b → a ≡ b
one_meaning left bytes all a b told read ma mb =
    let same : bytes ≡ take (input_limit + 1) all = subst (λ (o : Option (List ℕ)). IfSome o (λ x. bytes ≡ take (input_limit + 1) x)) told read.told in
    sym ma ∙ ap (whole_meaning input_limit) same ∙ mb

-- ---- the status

abbrev flaw_in : Checked → Option Flaw
flaw_in x = first_flaw (numbered x.script) x.recorded

is_done : (left : Option (List ℕ)) (W : List ℕ → Type 0) (text : List ℕ) (x : Checked) → left ≡ Some text → whole_meaning input_limit (take (input_limit + 1) text) ≡ Ok x
    → OfRead input_limit left IsFoundLegal W → status.Done ≡ status_of (flaw_in x)
is_done left W text x told means h =
    let same : h.says.checked ≡ x = ok_is h.says.checked x (one_meaning left h.bytes text (ok_of h.says.checked) (ok_of x) told h.read h.says.means means) in
    sym (ap status_of (ap flaw_in (sym same) ∙ h.says.flawless))

is_illegal : (left : Option (List ℕ)) (W : List ℕ → Type 0) (text : List ℕ) (x : Checked) → left ≡ Some text → whole_meaning input_limit (take (input_limit + 1) text) ≡ Ok x
    → OfRead input_limit left IsFoundIllegal W → status.Illegal ≡ status_of (flaw_in x)
is_illegal left W text x told means h =
    let same : h.says.checked ≡ x = ok_is h.says.checked x (one_meaning left h.bytes text (ok_of h.says.checked) (ok_of x) told h.read h.says.means means) in
    sym (ap status_of (ap flaw_in (sym same) ∙ h.says.first))

never_faulty : (left : Option (List ℕ)) (W : List ℕ → Type 0) (text : List ℕ) (x : Checked) → left ≡ Some text → whole_meaning input_limit (take (input_limit + 1) text) ≡ Ok x → OfRead input_limit left IsFoundFaulty W → ⊥
never_faulty left W text x told means h = ok_err x h.says.fault (sym (one_meaning left h.bytes text (err_of h.says.fault) (ok_of x) told h.read h.says.means means))

never_legal : (left : Option (List ℕ)) (W : List ℕ → Type 0) (text : List ℕ) (f : Fault) → left ≡ Some text → whole_meaning input_limit (take (input_limit + 1) text) ≡ Err f → OfRead input_limit left IsFoundLegal W → ⊥
never_legal left W text f told means h = ok_err h.says.checked f (one_meaning left h.bytes text (ok_of h.says.checked) (err_of f) told h.read h.says.means means)

never_illegal : (left : Option (List ℕ)) (W : List ℕ → Type 0) (text : List ℕ) (f : Fault) → left ≡ Some text → whole_meaning input_limit (take (input_limit + 1) text) ≡ Err f → OfRead input_limit left IsFoundIllegal W → ⊥
never_illegal left W text f told means h = ok_err h.says.checked f (one_meaning left h.bytes text (ok_of h.says.checked) (err_of f) told h.read h.says.means means)

pub completes_check : (left : Option (List ℕ)) (W V U : List ℕ → Type 0) (r : Status) → (r ≡ status.Done → OfRead input_limit left IsFoundLegal W) → (r ≡ status.Illegal → OfRead input_limit left IsFoundIllegal V)
    → (r ≡ status.BadScenario → OfRead input_limit left IsFoundFaulty U) → (r ≡ status.ReadFault → ⊥) → (r ≡ status.WriteFault → ⊥) → (r ≢ status.BadWords) → (r ≢ status.Stuck) → (r ≢ status.NotBuilt) → CompletesCheck left r
completes_check left W V U status.Done done illegal faulty rf wf bw st nb = λ text x told means. inl (is_done left W text x told means (done refl))
completes_check left W V U status.Illegal done illegal faulty rf wf bw st nb = λ text x told means. inl (is_illegal left V text x told means (illegal refl))
completes_check left W V U status.BadScenario done illegal faulty rf wf bw st nb = λ text x told means. absurd (never_faulty left U text x told means (faulty refl))
completes_check left W V U status.NoMemory done illegal faulty rf wf bw st nb = λ text x told means. inr refl
completes_check left W V U status.ReadFault done illegal faulty rf wf bw st nb = absurd (rf refl)
completes_check left W V U status.WriteFault done illegal faulty rf wf bw st nb = absurd (wf refl)
completes_check left W V U status.BadWords done illegal faulty rf wf bw st nb = absurd (bw refl)
completes_check left W V U status.Stuck done illegal faulty rf wf bw st nb = absurd (st refl)
completes_check left W V U status.NotBuilt done illegal faulty rf wf bw st nb = absurd (nb refl)

pub completes_check_fault : (left : Option (List ℕ)) (W V U : List ℕ → Type 0) (r : Status) → (r ≡ status.Done → OfRead input_limit left IsFoundLegal W) → (r ≡ status.Illegal → OfRead input_limit left IsFoundIllegal V)
    → (r ≡ status.WriteFault → OfRead input_limit left IsFoundLegal U) → (r ≡ status.ReadFault → ⊥) → (r ≢ status.BadWords) → (r ≢ status.Stuck) → (r ≢ status.NotBuilt) → CompletesCheckFault left r
completes_check_fault left W V U status.Done done illegal written rf bw st nb = λ text f told means. absurd (never_legal left W text f told means (done refl))
completes_check_fault left W V U status.Illegal done illegal written rf bw st nb = λ text f told means. absurd (never_illegal left V text f told means (illegal refl))
completes_check_fault left W V U status.WriteFault done illegal written rf bw st nb = λ text f told means. absurd (never_legal left U text f told means (written refl))
completes_check_fault left W V U status.BadScenario done illegal written rf bw st nb = λ text f told means. inl refl
completes_check_fault left W V U status.NoMemory done illegal written rf bw st nb = λ text f told means. inr refl
completes_check_fault left W V U status.ReadFault done illegal written rf bw st nb = absurd (rf refl)
completes_check_fault left W V U status.BadWords done illegal written rf bw st nb = absurd (bw refl)
completes_check_fault left W V U status.Stuck done illegal written rf bw st nb = absurd (st refl)
completes_check_fault left W V U status.NotBuilt done illegal written rf bw st nb = absurd (nb refl)
