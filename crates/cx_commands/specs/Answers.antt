-- What comes of a text before anything is written.
use Rattle.std.specs.Prelude.{ℕ, List, Option}
use Rattle.cx_script.specs.Script.{Script}
use Rattle.cx_commands.specs.Top.{Ends, GetsStuck, IsReplayed, IsStuck, IsFaulty}
use Rattle.cx_commands.specs.declared.replaying.Answer.{Answer}
use Rattle.cx_commands.specs.declared.replaying.Answer.TheVariants as answers

abbrev pub AnswersScenario : Answer → Option ℕ → Script → Type 0
AnswersScenario (answers.Ended text) seed s = Ends s seed text.items
AnswersScenario (answers.Stuck text) seed s = GetsStuck s seed text.items
AnswersScenario (answers.Faulty text) seed s = ⊥

abbrev pub AnswersText : Answer → Option ℕ → List ℕ → Type 0
AnswersText (answers.Ended text) seed bytes = IsReplayed seed bytes text.items
AnswersText (answers.Stuck text) seed bytes = IsStuck seed bytes text.items
AnswersText (answers.Faulty text) seed bytes = IsFaulty bytes text.items
