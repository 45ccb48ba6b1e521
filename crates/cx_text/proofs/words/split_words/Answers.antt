use Rattle.std.proofs.Common.{rules, ◌<◌, length}
use Rattle.std.proofs.lemmas.List.{map_push}
use Rattle.cx_text.specs.Views.{now_all}
use Rattle.cx_text.proofs.WordsKept.{word_taken, all_taken, words_kept}
use Rattle.cx_text.proofs.words.split_words.Goals as goal

pub loop-rest-preserved-in-Continue-1 : goal.loop-rest-preserved-in-Continue-1
loop-rest-preserved-in-Continue-1 c =
    let some : 0 < length c.first_part.result.0.now = search rules in
    rw (c.in_ok-push.ensures.items, map_push) (word_taken _ (now_all c.loop-rest.words.items) c.loop-rest.rest.now _ _ c.first_part.ensures.before c.first_part.ensures.after some c.loop-rest.invariant)

pub returns-else-is_comment : goal.returns-else-is_comment
returns-else-is_comment c =
    words_kept c.args.line.now (now_all c.loop-rest.words.items) (all_taken _ (now_all c.loop-rest.words.items) c.loop-rest.rest.now (search rules) c.loop-rest.invariant) (search rules)
