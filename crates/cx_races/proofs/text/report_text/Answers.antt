use Rattle.std.proofs.Common.{map, sym, length}
use Rattle.std.proofs.lemmas.List.{length-map}
use Rattle.cx_races.proofs.Lines.{text_on, text_ends}
use Rattle.cx_races.proofs.text.report_text.Goals as goal

pub loop-i-preserved : goal.loop-i-preserved
loop-i-preserved c =
    text_on (map (λ n. n.items) c.args.names.now) c.args.entries.now c.loop-i.i c.name_at-name.result.now c.entry_at-entry.result c.loop-i.text.items c.put_line.new.text.items _ c.name_at-name.ensures c.entry_at-entry.ensures c.in_ok-put_line.ensures c.loop-i.invariant

pub returns : goal.returns
returns c =
    text_ends (map (λ n. n.items) c.args.names.now) c.args.entries.now (length c.args.names.now) c.min-count.result c.loop-i.i c.loop-i.text.items _ (sym (length-map c.args.names.now (λ n. n.items))) c.min-count.ensures c.loop-i-test.false c.loop-i.invariant
