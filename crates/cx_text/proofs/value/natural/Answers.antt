use Rattle.std.proofs.Common.{◌≡◌, true, ◌∙◌, arith, rules}
use Rattle.cx_text.specs.Words.{is_digits}
use Rattle.cx_text.proofs.Digits.{few_digits, digit_at, room, grown, next_digit}
use Rattle.cx_text.proofs.value.natural.Goals as goal

pub overflow_mul-n : goal.overflow_mul-n
overflow_mul-n c =
    let digits : is_digits c.args.word.now ≡ true = search rules in
    let few = few_digits c.args.word.now digits in
    let small = room c.loop-b.n c.loop-b.b-index c.loop-b.invariant.small (omega arith) in
    omega arith

pub overflow_sub-n : goal.overflow_sub-n
overflow_sub-n c = (digit_at c.args.word.now c.loop-b.b-index (search rules) c.loop-b-test.true).0

pub overflow_add-n : goal.overflow_add-n
overflow_add-n c =
    let digits : is_digits c.args.word.now ≡ true = search rules in
    let few = few_digits c.args.word.now digits in
    let small = room c.loop-b.n c.loop-b.b-index c.loop-b.invariant.small (omega arith) in
    let digit = digit_at c.args.word.now c.loop-b.b-index digits c.loop-b-test.true in
    omega (arith, digit.1)

pub loop-b-preserved : goal.loop-b-preserved
loop-b-preserved c =
    let digits : is_digits c.args.word.now ≡ true = search rules in
    let digit = digit_at c.args.word.now c.loop-b.b-index digits c.loop-b-test.true in
    record {
      so_far = next_digit c.loop-b.n c.args.word.now c.loop-b.b-index c.loop-b-test.true ∙ c.loop-b.invariant.so_far;
      small = grown c.loop-b.n c.loop-b.b-index _ c.loop-b.invariant.small digit.1;
    }

pub returns-clause-short : goal.returns-clause-short
returns-clause-short c =
    let digits : is_digits c.args.word.now ≡ true = search rules in
    let few = few_digits c.args.word.now digits in
    room c.loop-b.n c.loop-b.b-index c.loop-b.invariant.small (omega arith)
