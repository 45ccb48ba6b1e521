use Rattle.std.proofs.Common.{◌≡◌, sym, ◌∙◌, arith, length}
use Rattle.std.proofs.lemmas.Bool.{eqb-true}
use Rattle.std.specs.Vec.{vec_len}
use Rattle.cx_text.specs.Views.{now_all}
use Rattle.cx_record.specs.ReaderSeen.{state_of}
use Rattle.cx_record.proofs.GoingOn.{dropped_words, said_goes_by}
use Rattle.cx_record.proofs.reader.Reader.take_words.Goals as goal

pub returns-then-is_empty : goal.returns-then-is_empty
returns-then-is_empty c =
    let none : vec_len c.args.room.now.words ≡ 0 = eqb-true _ 0 (sym c.is_empty.ensures ∙ c.if-is_empty.true) in
    let short : length c.args.room.now.words.items ≡ 0 = omega (arith, c.args.room.now.words.ok.0) in
    dropped_words (state_of c.args.self.now) c.args.room.now.words.items short

pub returns-in_ok-fault-in-Some : goal.returns-in_ok-fault-in-Some
returns-in_ok-fault-in-Some c =
    let e = rw c.in-Some.is at c.in_ok-form.ensures in
    let f = rw c.deref.ensures.value at e in
    said_goes_by (state_of c.args.self.now) (state_of c.take_said.new.self) (now_all c.args.room.now.words.items) c.in-Some.form c.deref-in-Some.result.now c.read_line.new.values.items c.in_ok-fault-in-Some.fault
    c.deref-in-Some.ensures.value f c.in_ok-fault-in-Some.ensures
