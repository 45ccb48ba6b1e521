-- What an act makes of a view, of what is held, and its item.
use Rattle.std.specs.Prelude.{◌≡◌, ℕ, ◌+◌, ◌<◌, ◌≤◌, Option, Some, None}
use Rattle.cx_names.specs.declared.ObjectNo.{ObjectNo}
use Rattle.cx_names.specs.declared.ThreadNo.{ThreadNo}
use Rattle.cx_machine.specs.declared.kind.Op.{Op}
use Rattle.cx_machine.specs.declared.machine.Meaning.{Ghosts}
use Rattle.cx_machine.specs.Machine as all
use Rattle.cx_machine.specs.Meaning.{change, look_of}
use Rattle.cx_turn.specs.declared.view.View.{View}
use Rattle.cx_turn.specs.Acts.{Makes, Looks}
use Rattle.cx_turn.specs.declared.either.Either.{Either}
use Rattle.cx_turn.specs.declared.either.Either.TheVariants as eithers
use Rattle.cx_items.specs.declared.item.Item.{Item}
use Rattle.cx_items.specs.declared.item.Item.TheVariants as items
use Rattle.cx_items.specs.declared.kept.Kept.{Kept}
use Rattle.cx_items.specs.Memory.{kept_after}
use Rattle.cx_asks.specs.declared.ask.Ask.{Ask}
use Rattle.cx_kinds.specs.AnyKind.{any_kind}
use Rattle.cx_kinds.specs.Holding.{in_hand}

-- ---- of one kind

-- the pass may be split, once more, and give so many changes away
pub record CanSplit {M : Type 0} (v : View M) (calls : ℕ) : Type 0 where
  pub first : v.number ≡ 0
  pub room : v.splits + 1 < v.seats
  pub may : calls ≤ v.left

-- what was done of what was asked, or nothing
abbrev pub DoesAsk : {M : Type 0} → Ghosts M → ThreadNo → Ask → View M → View M → Option Either → Type 0
DoesAsk K by ask v w None = w ≡ v
DoesAsk K by ask v w (Some (eithers.Made r n)) = (op : Op) × (ask.change ≡ Some op) × Makes K v w (change by op ask.a ask.b r) n
DoesAsk K by ask v w (Some (eithers.Seen r k)) = (op : Op) × (ask.look ≡ Some op) × Looks K v w (look_of by op ask.a ask.b r k)

-- what is held goes on as a thread remembers it: by the word of the change alone
abbrev pub IsKept : Ask → Kept → Option Either → Kept → Type 0
IsKept ask k (Some (eithers.Made r n)) k' = (op : Op) → ask.change ≡ Some op → k' ≡ in_hand (kept_after op k)
IsKept ask k _ k' = k' ≡ k

-- the item of what was done of an ask
abbrev pub IsItemOf : ObjectNo → ThreadNo → Ask → Either → Option Item → Type 0
IsItemOf o by ask (eithers.Made r n) x = (op : Op) → ask.change ≡ Some op → x ≡ Some (items.Change o n (change by op ask.a ask.b r))
IsItemOf o by ask (eithers.Seen r k) x = (op : Op) → ask.look ≡ Some op → x ≡ Some (items.Look o (look_of by op ask.a ask.b r k))

-- ---- whatever the kind

-- the item is of what was asked of object o, made by the thread of the view, which went on by it alone
abbrev pub Steps : ObjectNo → Ask → View all.State → View all.State → Item → Type 0
Steps o ask v w (items.Change q n e) = (q ≡ o) × (e.by.0 ≡ v.number) × ((op : Op) × (ask.change ≡ Some op) × (e ≡ change e.by op ask.a ask.b e.reply)) × Makes any_kind v w e n
Steps o ask v w (items.Look q l) = (q ≡ o) × (l.by.0 ≡ v.number) × ((op : Op) × (ask.look ≡ Some op) × (l ≡ look_of l.by op ask.a ask.b l.reply l.at)) × Looks any_kind v w l
Steps o ask v w _ = ⊥

-- the same where something was asked that can't be
abbrev pub StepsIf : ObjectNo → Ask → View all.State → View all.State → Option Item → Type 0
StepsIf o ask v w None = w ≡ v
StepsIf o ask v w (Some x) = Steps o ask v w x

-- what is held goes on as a thread remembers it
abbrev pub IsKeptBy : Kept → Option Item → Kept → Type 0
IsKeptBy k (Some (items.Change q n e)) k' = k' ≡ in_hand (kept_after e.op k)
IsKeptBy k _ k' = k' ≡ k
