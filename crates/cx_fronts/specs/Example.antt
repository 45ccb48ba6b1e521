-- A record of two threads: main starts a thread, releases a semaphore and joins the thread, which acquires it.
use Rattle.std.specs.Prelude.{pos, true, List, [], ◌∷◌, Some}
use Rattle.cx_names.specs.declared.ThreadNo.{ThreadNo}
use Rattle.cx_names.specs.declared.ObjectNo.{ObjectNo}
use Rattle.cx_names.specs.declared.Reply.TheVariants as replies
use Rattle.cx_machine.specs.declared.kind.Entry.{Entry}
use Rattle.cx_machine.specs.declared.kind.Op.TheVariants as ops
use Rattle.cx_scene.specs.declared.call.Call.TheVariants as calls
use Rattle.cx_scene.specs.declared.declared.Object.TheVariants as objects
use Rattle.cx_scene.specs.declared.declared.Thread.TheVariants as threads
use Rattle.cx_scene.specs.Scene.{Scene}
use Rattle.cx_items.specs.declared.item.Control.TheVariants as controls
use Rattle.cx_items.specs.declared.item.Item.{Item}
use Rattle.cx_items.specs.declared.item.Item.TheVariants as items
use Rattle.cx_history.specs.Histories.{Recorded}

abbrev pub the_semaphore : ObjectNo
the_semaphore = record { 0 = 0 }

abbrev pub the_thread : ThreadNo
the_thread = record { 0 = 1 }

abbrev pub released : Entry
released = record { by = record { 0 = 0 }; op = ops.Release; a = pos 1; b = pos 0; reply = replies.Ok }

abbrev pub acquired : Entry
acquired = record { by = the_thread; op = ops.Acquire; a = pos 0; b = pos 0; reply = replies.Ok }

abbrev pub scene : Scene
scene = record {
  version = 1;
  threads = threads.Plain ∷ threads.Plain ∷ [];
  objects = objects.Semaphore 0 2 ∷ [];
  callbacks = [];
  bodies =
      (calls.Start the_thread ∷ calls.Release the_semaphore 1 ∷ calls.Join the_thread ∷ [])
      ∷ (calls.Acquire the_semaphore ∷ [])
      ∷ [];
}

abbrev pub ok : Item
ok = items.Said replies.Ok

abbrev pub main_list : List Item
main_list = items.Control (controls.Start the_thread true) ∷ ok ∷ items.Change the_semaphore 0 released ∷ ok ∷ items.Control (controls.Join the_thread) ∷ ok ∷ []

abbrev pub thread_list : List Item
thread_list = items.Change the_semaphore 1 acquired ∷ ok ∷ []

abbrev pub recorded : Recorded
recorded = record { version = 1; lists = Some main_list ∷ Some thread_list ∷ [] }
