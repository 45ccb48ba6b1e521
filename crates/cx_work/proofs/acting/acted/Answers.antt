use Rattle.std.proofs.Common.{refl}
use Rattle.std.specs.Prelude.{vec_len}
use Rattle.cx_work.proofs.Actions.{is_asked, asked_is, asked_low, asked_within, asked_done, slice_seen, read_accesses, read_asks}
use Rattle.cx_work.proofs.acting.acted.Goals as goal

pub unwrap-requires : goal.unwrap-requires
unwrap-requires g c = is_asked c.args.forms.now c.args.accesses.now.items c.ask_of.result c.requires.served c.ask_of.ensures

pub index_mut-requires : goal.index_mut-requires
index_mut-requires g c = asked_within c.args.forms.now c.args.accesses.now c.unwrap.result.0 c.unwrap.result.1 c.requires.served (asked_is c.args.forms.now c.ask_of.result c.unwrap.result c.unwrap.ensures c.ask_of.ensures)

pub act-requires : goal.act-requires
act-requires g c =
    let asked = asked_is c.args.forms.now c.ask_of.result c.unwrap.result c.unwrap.ensures c.ask_of.ensures in
    record { seen = slice_seen c.args.accesses.now.items c.unwrap.result.0.0 c.index_mut.result.now c.requires.accesses (asked_low c.args.forms.now c.args.accesses.now.items c.unwrap.result.0 c.unwrap.result.1 c.requires.served asked) c.index_mut.ensures.value }

pub unwrap-requires-2 : goal.unwrap-requires-2
unwrap-requires-2 g c =
    let asked = asked_is c.args.forms.now c.ask_of.result c.unwrap.result c.unwrap.ensures c.ask_of.ensures in
    asked_done c.args.forms.now c.args.accesses.now.items c.unwrap.result.0 c.unwrap.result.1 c.requires.accesses.0 c.index_mut.result.now c.act.result c.requires.served asked c.requires.accesses.1 c.index_mut.ensures.value c.act.ensures.served

pub returns-clause-accesses : goal.returns-clause-accesses
returns-clause-accesses g c =
    let asked = asked_is c.args.forms.now c.ask_of.result c.unwrap.result c.unwrap.ensures c.ask_of.ensures in
    let low = asked_within c.args.forms.now c.args.accesses.now c.unwrap.result.0 c.unwrap.result.1 c.requires.served asked in
    read_accesses c.args.accesses.now (vec_len c.args.accesses.now) c.index_mut.result.now c.act.new.self c.unwrap.result.0 c.unwrap.result.1 c.act.result refl low c.index_mut.ensures.value c.act.ensures.object c.act.ensures.did

pub returns-clause-asked : goal.returns-clause-asked
returns-clause-asked g c =
    let asked = asked_is c.args.forms.now c.ask_of.result c.unwrap.result c.unwrap.ensures c.ask_of.ensures in
    let low = asked_within c.args.forms.now c.args.accesses.now c.unwrap.result.0 c.unwrap.result.1 c.requires.served asked in
    read_asks c.args.forms.now c.args.accesses.now (vec_len c.args.accesses.now) c.index_mut.result.now c.act.new.self c.unwrap.result.0 c.unwrap.result.1 c.act.result c.unwrap-2.result asked refl low c.index_mut.ensures.value c.act.ensures.object c.act.ensures.did c.act.ensures.kept c.unwrap-2.ensures
