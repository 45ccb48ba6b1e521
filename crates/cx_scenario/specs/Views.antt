-- What the kept values stand for.
pub use Rattle.cx_scenario.specs.Seen.{values_seen, filled, said_now}
use Rattle.std.specs.Prelude.{ℕ, List, map, option_map}
use Rattle.cx_text.specs.Views.{now_all}
use Rattle.cx_script.specs.Script.{Names}
use Rattle.cx_scenario.specs.declared.names.Names.{Names as NamesOf}
use Rattle.cx_script.specs.Earlier.{Place, Opening, Declaring, Between, Inside, Over}
use Rattle.cx_scenario.specs.declared.place.Place.{Place as PlaceOf}
use Rattle.cx_scenario.specs.declared.place.Place.TheVariants as places
use Rattle.cx_scenario.specs.declared.once.Once.{Once}
use Rattle.cx_scenario.specs.declared.body.Body.{Body as BodyOf}
use Rattle.cx_scenario.specs.declared.takings.Takings.{Takings as TakingsOf}
use Rattle.cx_scenario.specs.declared.groups.Group.{Group}
use Rattle.cx_scenario.specs.declared.groups.Groups.{Groups as GroupsIn}
use Rattle.cx_scenario.specs.declared.reader.Reader.{Reader}
use Rattle.cx_scenario.specs.Steps.{BodyState, OnceState, TakingsState, GroupOf, GroupsState, State}

abbrev pub place_seen : PlaceOf → Place
place_seen places.Opening = Opening
place_seen places.Declaring = Declaring
place_seen places.Between = Between
place_seen places.Inside = Inside
place_seen places.Over = Over

abbrev pub names_seen : NamesOf → Names
names_seen n = record { threads = n.threads; objects = n.objects; callbacks = n.callbacks }

abbrev pub body_seen : BodyOf → BodyState
body_seen b = record { thread = b.thread.now; length = b.len; registered = b.registered; unjoined = now_all b.unjoined.items }

abbrev pub once_seen : Once → OnceState
once_seen o = record { bodies = o.bodies; started = o.started; launched = o.launched; registered = o.registered }

abbrev pub takings_seen : TakingsOf → TakingsState
takings_seen t = record { names = t.names; counts = t.counts.items }

abbrev pub group_seen : Group → GroupOf
group_seen g = record { thread = g.thread.now; calls = g.calls.items }

abbrev pub groups_seen : GroupsIn → GroupsState
groups_seen g = record { done = map group_seen g.done.items; open_one = option_map group_seen g.under_way }

abbrev pub state_of : Reader → State
state_of r = record {
  place = place_seen r.place;
  main = r.main;
  kept = r.kept;
  once = once_seen r.once;
  names = names_seen r.names;
  body = body_seen r.body;
  calls = r.calls;
  takings = takings_seen r.takings;
  groups = groups_seen r.groups;
}

abbrev pub group_name : Group → List ℕ
group_name g = g.thread.now
