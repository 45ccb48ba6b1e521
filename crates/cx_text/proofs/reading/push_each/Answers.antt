use Rattle.std.proofs.Common.{sym, map}
use Rattle.std.proofs.lemmas.List.{map_push}
use Rattle.cx_text.specs.Views.{seen}
use Rattle.cx_text.proofs.Taken.{each_more, each_stops, each_ends}
use Rattle.cx_text.proofs.reading.push_each.Goals as goal

pub returns-in-None : goal.returns-in-None
returns-in-None c =
    each_stops c.args.own.now c.args.field c.args.words.now c.loop-word.word-index _ (map seen c.loop-word.values.items) _ c.loop-word-test.true (sym c.in-None.ensures) c.loop-word.invariant

pub loop-word-preserved : goal.loop-word-preserved
loop-word-preserved c =
    rw (c.in_ok-push-in-Some.ensures.items, map_push)
    (each_more c.args.own.now c.args.field c.args.words.now c.loop-word.word-index _ (map seen c.loop-word.values.items) (seen c.in-Some.value) _ c.loop-word-test.true (sym c.in-Some.ensures) c.loop-word.invariant)

pub returns : goal.returns
returns c = each_ends c.args.own.now c.args.field c.args.words.now c.loop-word.word-index (map seen c.loop-word.values.items) _ c.loop-word-test.false c.loop-word.invariant
