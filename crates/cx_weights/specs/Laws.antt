-- What is proved of the weights.
use Rattle.std.specs.Prelude.{◌≡◌, ℕ, ◌+◌, ◌≤◌, ◌<◌, ◌^◌, Bool, true, List, length, slice_get, slice_set, Some}
use Rattle.std.specs.List.{list_all}
use Rattle.cx_machine.specs.declared.kind.Entry.{Entry}
use Rattle.cx_machine.specs.declared.kind.Look.{Look}
use Rattle.cx_machine.specs.Machine.{State, step, shows}
use Rattle.cx_scene.specs.Scene.{Scene, body_of}
use Rattle.cx_script.specs.Script.{Script}
use Rattle.cx_script.specs.Numbered.{IsScript, numbered}
use Rattle.cx_items.specs.declared.item.Item.{Item}
use Rattle.cx_items.specs.Next.{Local, moved}
use Rattle.cx_weights.specs.Weights.{pays, earns, paid_by, earned_by, weight, IsSized, is_sized_call, is_true_look, is_true_item}
use Rattle.cx_weights.specs.World.{reserve, is_asked, Moves, total, AllSized, opening_states, starts, Run}

-- the item makes the weight smaller, but for what is paid and earned
pub record Falls (s : Scene) (asked : ℕ → Bool) (old new : Local) (x : Item) : Type 0 where
  pub less : weight s asked new + (1 + paid_by x) ≤ weight s asked old + earned_by x
  pub sized : IsSized new

-- EACH ITEM THAT IS ALLOWED WHERE A THREAD STANDS MAKES ITS WEIGHT SMALLER
abbrev pub EachItemWeighs : Type 0
EachItemWeighs = (s : Scene) (asked : ℕ → Bool) (completing : Bool) (t : ℕ) (l k : Local) (x : Item) → IsSized l → is_true_item asked x ≡ true → moved s completing t l x ≡ Some k → Falls s asked l k x

-- a stop that is requested makes nothing heavier
abbrev pub RequestedIsLighter : Type 0
RequestedIsLighter = (s : Scene) (asked asked' : ℕ → Bool) (l : Local) → ((o : ℕ) → asked o ≡ true → asked' o ≡ true) → weight s asked' l ≤ weight s asked l

-- a change takes from its object's reserve what it earns, and puts in at most what it pays; a stop stays requested
pub record Settles (x next : State) (e : Entry) : Type 0 where
  pub reserved : reserve next + earns e.op ≤ reserve x + pays e.op
  pub stays : is_asked x ≡ true → is_asked next ≡ true

abbrev pub EachChangeSettles : Type 0
EachChangeSettles = (x next : State) (e : Entry) → step x e ≡ Some next → Settles x next e

-- a look that is shown says truly whether a stop is requested
abbrev pub EachLookIsTrue : Type 0
EachLookIsTrue = (x : State) (l : Look) → shows x l ≡ true → is_true_look l.op l.reply (is_asked x) ≡ true

-- one item of thread t makes the total smaller
pub record Lessens (s : Scene) (states next : List State) (locals : List Local) (t : ℕ) (k : Local) : Type 0 where
  pub less : total s next (slice_set locals t k) + 1 ≤ total s states locals
  pub sized : AllSized (slice_set locals t k)

-- EACH ITEM THAT A THREAD MAKES LEAVES LESS TO BE DONE BY ALL
abbrev pub EachStepWeighs : Type 0
EachStepWeighs = (s : Scene) (states next : List State) (locals : List Local) (completing : Bool) (t : ℕ) (l k : Local) (x : Item) → AllSized locals → slice_get locals t ≡ Some l → Moves states x next → moved s completing t l x ≡ Some k → Lessens s states next locals t k

-- a scenario of at most 64 threads and 128 objects, with at most 4,096 calls a thread
pub record IsSmall (s : Scene) : Type 0 where
  pub threads : length s.threads ≤ 64
  pub objects : length s.objects ≤ 128
  pub few : (t : ℕ) → length (body_of s t) ≤ 4096
  pub sized : (t : ℕ) → list_all is_sized_call (body_of s t) ≡ true

pub record IsLight (s : Scene) : Type 0 where
  pub light : total s (opening_states s) (starts s) < 2 ^ 28
  pub sized : AllSized (starts s)

-- ALL THREADS OF A SCENARIO TOGETHER MAKE FEWER THAN 2^28 ITEMS
abbrev pub ScenarioIsLight : Type 0
ScenarioIsLight = (s : Scene) → IsSmall s → IsLight s

-- each scenario that a text means is small
abbrev pub ScriptIsSmall : Type 0
ScriptIsSmall = (s : Script) → IsScript s → IsSmall (numbered s)

-- EVERY SCHEDULE ENDS: what was done and what may still be done are together no more than what may be done at the start
pub record Lasts (s : Scene) (n : ℕ) (states : List State) (locals : List Local) : Type 0 where
  pub within : n + total s states locals ≤ total s (opening_states s) (starts s)
  pub short : n < 2 ^ 28
  pub sized : AllSized locals

abbrev pub EveryScheduleEnds : Type 0
EveryScheduleEnds = (s : Scene) (n : ℕ) (states : List State) (locals : List Local) → IsSmall s → Run s n states locals → Lasts s n states locals
