use Rattle.std.proofs.Common.{◌∙◌, sym, ap}
use Rattle.cx_text.specs.Items.{items}
use Rattle.cx_text.specs.Views.{now_all, first_byte}
use Rattle.cx_text.proofs.Among.{whole}
use Rattle.cx_text.proofs.Telling.{by_head, by_word}
use Rattle.cx_text.proofs.choosing.item_forms_for.Goals as goal

pub returns-in-43 : goal.returns-in-43
returns-in-43 c =
    by_word _ items c.args.head.now (now_all c.args.after.now) 43 2 c.first_byte-in-43.result c.changes_by.result.now (sym c.first_byte.ensures ∙ c.in-43.is)
    (c.first_byte-in-43.ensures ∙ ap first_byte c.word_at.ensures) c.changes_by.ensures

pub returns-in-63 : goal.returns-in-63
returns-in-63 c =
    by_word _ items c.args.head.now (now_all c.args.after.now) 63 2 c.first_byte-in-63.result c.looks_by.result.now (sym c.first_byte.ensures ∙ c.in-63.is)
    (c.first_byte-in-63.ensures ∙ ap first_byte c.word_at-in-63.ensures) c.looks_by.ensures

pub returns-in-61 : goal.returns-in-61
returns-in-61 c =
    by_word _ items c.args.head.now (now_all c.args.after.now) 61 0 c.first_byte-in-61.result c.replies_by.result.now (sym c.first_byte.ensures ∙ c.in-61.is)
    (c.first_byte-in-61.ensures ∙ ap first_byte c.word_at-in-61.ensures) c.replies_by.ensures

pub returns-in-42 : goal.returns-in-42
returns-in-42 c = by_head _ items c.args.head.now (now_all c.args.after.now) 42 c.controls.result.now (sym c.in-42.is ∙ c.first_byte.ensures) c.controls.ensures

pub returns-in_default : goal.returns-in_default
returns-in_default c = whole _ items c.args.head.now (now_all c.args.after.now) c.all_item_forms.result.now c.all_item_forms.ensures
