use Rattle.std.proofs.Common.{◌≡◌, ℕ, List, Ok, Err, refl, ap, ◌∙◌, subst}
use Rattle.cx_text.specs.Lines.{lines_of}
use Rattle.cx_scenario.specs.declared.reading.ReadErr.TheVariants as errors
use Rattle.cx_history.specs.declared.record.Record.{Record}
use Rattle.cx_history.specs.Views.{recorded_of}
use Rattle.cx_record.specs.Parsed.{record_meaning}
use Rattle.cx_accesses.specs.RecordPart.{count_to_done}
use Rattle.cx_accesses.proofs.PartRead.{is_part, is_bad, read_ok, err_is}
use Rattle.cx_accesses.proofs.part.read_front.Goals as goal

pub front-requires : goal.front-requires
front-requires c = c.requires.end.within

pub returns-in-Ok-clause-found : goal.returns-in-Ok-clause-found
returns-in-Ok-clause-found c =
    let s = c.args.scenario.now in
    let first = c.args.first_line in
    let room = c.args.room in
    let text = c.args.text.now in
    let x = c.in-Ok.record_of in
    let means = subst (λ (t : List ℕ). record_meaning s first room t ≡ Ok (recorded_of x)) c.front.ensures (read_ok c.parse-found.result x (λ (y : Record). record_meaning s first room c.front.result.now ≡ Ok (recorded_of y)) c.parse-found.ensures.found c.in-Ok.ensures.kept.1) in
    is_part s first room text (count_to_done (lines_of room text)) c.args.end.len refl c.requires.end.len_is c.args.end.past (recorded_of x) c.args.end.next c.requires.end.past_is c.in-Ok.ensures.kept.0 means c.requires.end.next_is

pub returns-in-Err-clause-bad : goal.returns-in-Err-clause-bad
returns-in-Err-clause-bad c = λ f e.
    let s = c.args.scenario.now in
    let first = c.args.first_line in
    let room = c.args.room in
    let text = c.args.text.now in
    let is = c.in-Err.is ∙ ap Err (err_is (Err c.in-Err.fault) c.in-Err.fault (errors.Bad f) refl e) in
    is_bad s first room text (count_to_done (lines_of room text)) c.args.end.len refl c.requires.end.len_is c.args.end.past c.parse-found.result f c.requires.end.past_is (c.within_limit-limited.ensures.memory f is)
    (λ x ok. subst (λ (t : List ℕ). record_meaning s first room t ≡ Ok (recorded_of x)) c.front.ensures (read_ok c.parse-found.result x (λ (y : Record). record_meaning s first room c.front.result.now ≡ Ok (recorded_of y)) c.parse-found.ensures.found ok))
    (λ g bad. subst (λ (t : List ℕ). record_meaning s first room t ≡ Err g) c.front.ensures (c.parse-found.ensures.bad g bad))
    (c.within_limit-limited.ensures.none f is)
