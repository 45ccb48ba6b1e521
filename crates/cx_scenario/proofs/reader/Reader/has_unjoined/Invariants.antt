use Rattle.std.proofs.Common.{◌≡◌, drop}
use Rattle.std.specs.List.{list_any}
use Rattle.cx_text.specs.Views.{now_all}
use Rattle.cx_script.specs.Faults.{is_plain_thread}
use Rattle.cx_scenario.proofs.reader.Reader.has_unjoined.Given as goal

abbrev pub invariant-loop-name : goal.invariant-loop-name
invariant-loop-name l = list_any (is_plain_thread l.self.kept) (now_all (drop l.name-index l.name-items)) ≡ list_any (is_plain_thread l.self.kept) (now_all l.self.body.unjoined.items)
