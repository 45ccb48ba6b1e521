use Rattle.std.proofs.Common.{◌≡◌, ◌∙◌, ◌++◌, ◌∷◌, [], sym, refl, map, arith}
use Rattle.std.proofs.lemmas.List.{map_push}
use Rattle.cx_text.specs.declared.form.Field.TheVariants as fields
use Rattle.cx_text.specs.Views.{seen}
use Rattle.cx_text.proofs.Taken.{nothing_left, several_short, several_taken, no_word, word_stops, word_more, after_first, not_several}
use Rattle.cx_text.proofs.reading.+push_values.Goals as goal

pub returns-in-empty : goal.returns-in-empty
returns-in-empty t c = nothing_left c.args.own.now c.args.fields.now c.args.words.now (map seen c.args.values.now.items) _ c.in-empty.len_below c.is_empty.ensures

pub returns-then-is_within : goal.returns-then-is_within
returns-then-is_within t c =
    rw (several_taken c.args.own.now c.args.fields.now c.args.words.now _ _ _ _ (omega arith) c.in-Several.is (sym c.is_within.ensures ∙ c.if-is_within.true)) c.push_each.ensures

pub returns-else-is_within : goal.returns-else-is_within
returns-else-is_within t c =
    several_short c.args.own.now c.args.fields.now c.args.words.now _ _ _ _ (map seen c.args.values.now.items) (omega arith) c.in-Several.is (sym c.is_within.ensures ∙ c.if-is_within.false)

pub returns-in-empty-words : goal.returns-in-empty-words
returns-in-empty-words t c =
    no_word c.args.own.now c.args.fields.now c.args.words.now fields.New (map seen c.args.values.now.items) (omega arith) (not_several _ c.in_default.not-Several) c.in-empty-words.len_below

pub returns-in-None : goal.returns-in-None
returns-in-None t c =
    word_stops c.args.own.now c.args.fields.now c.args.words.now fields.New _ (map seen c.args.values.now.items) (omega arith) (not_several _ c.in_default.not-Several) (omega arith) (sym c.in-None.ensures)

pub returns-in_ok-push-in-Some : goal.returns-in_ok-push-in-Some
returns-in_ok-push-in-Some t c =
    let pushed : map seen c.push.new.self.items ≡ map seen c.args.values.now.items ++ seen c.in-Some.value ∷ [] = rw (c.in_ok-push-in-Some.ensures.items, map_push) refl in
    word_more c.args.own.now c.args.fields.now c.args.words.now fields.New _ (map seen c.args.values.now.items) _ (seen c.in-Some.value) c.push_values.result (map seen c.push_values.new.values.items) _ _ (after_first c.args.fields.now (omega arith)) (after_first c.args.words.now (omega arith)) (omega arith) (not_several _ c.in_default.not-Several) (omega arith) (sym c.in-Some.ensures) pushed c.push_values.ensures
