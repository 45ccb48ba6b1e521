use Rattle.std.proofs.Common.{ℕ, suc, ◌+◌, List, map, take, ap, ◌∙◌}
use Rattle.cx_text.specs.Lines.{Line, lines_of}
use Rattle.cx_scenario.specs.Front.{bytes_of}
use Rattle.cx_scenario.proofs.Fronts.{short}
use Rattle.cx_record.specs.RecordFaults.{read_line}
use Rattle.cx_accesses.specs.RecordPart.{item_limit, count_to_done, item_past}
use Rattle.cx_accesses.proofs.part.end_of.Goals as goal

pub front-requires : goal.front-requires
front-requires c = short c.args.room c.args.text.now c.in_ok-count.count c.part_bytes-len.result c.part_bytes-len.ensures

pub returns : goal.returns
returns c =
    let count_is = c.in_ok-count.ensures ∙ ap count_to_done c.of-lines.ensures in
    record {
      within = short c.args.room c.args.text.now c.in_ok-count.count c.part_bytes-len.result c.part_bytes-len.ensures;
      len_is = c.part_bytes-len.ensures ∙ ap (λ (n : ℕ). bytes_of n (take (suc c.args.room) c.args.text.now)) count_is;
      next_is = c.in_ok-next.ensures ∙ ap (λ (n : ℕ). c.args.first_line + n) count_is;
      past_is = c.in_ok-past.ensures ∙ (ap (λ (ls : List Line). item_past c.args.first_line item_limit (map read_line ls)) c.of-part.ensures ∙ ap (λ (t : List ℕ). item_past c.args.first_line item_limit (map read_line (lines_of c.args.room t))) c.front.ensures);
    }
