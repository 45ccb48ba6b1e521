-- What the words of an act are, where they are those of a well-formed item.
use Rattle.std.proofs.Common.{◌≡◌, ℕ, zero, suc, ◌^◌, ◌<◌, ◌≤◌, ℤ, pos, negsuc, inl, inr, Bool, true, false, cond, ◌&&◌, ◌||◌, Option, Some, None, refl, sym, ap, subst, ◌∙◌, arith}
use Rattle.std.specs.Prelude.{is_some, nat_lt, nat_le}
use Rattle.std.specs.Option.{option_map}
use Rattle.std.proofs.lemmas.Bool.{and_parts, or_cases, leb-true, ltb-true, true≢false}
use Rattle.std.proofs.lemmas.Bool.Decides.{Decides-int_eq}
use Rattle.cx_names.specs.declared.ThreadNo.{ThreadNo}
use Rattle.cx_names.specs.declared.Outcome.{Outcome}
use Rattle.cx_names.specs.declared.Outcome.TheVariants as outcomes
use Rattle.cx_names.specs.declared.Reply.{Reply}
use Rattle.cx_names.specs.declared.Reply.TheVariants as replies
use Rattle.cx_names.specs.Replies.{int_eq, reply_eq}
use Rattle.cx_names.proofs.Equal.{replies_are_equal}
use Rattle.cx_machine.specs.Words.{small_of, is_small, outcome_of as outcome_in}
use Rattle.cx_items.specs.Form.{is_number, is_outcome}
use Rattle.cx_history.specs.IsRecord.{is_within, bare, one_number, word, index, is_u32_reply, is_thread_reply, is_deregistered, is_answer}

-- ---- one number or reply

zero_is : (P : ℤ → Type 0) (a : ℤ) → int_eq a (pos 0) ≡ true → P (pos 0) → P a
zero_is P a h x = subst P (sym ((Decides-int_eq a (pos 0)).0 h)) x

reply_is : (P : Reply → Type 0) (r q : Reply) → reply_eq r q ≡ true → P q → P r
reply_is P r q h x = subst P (sym ((replies_are_equal r q).0 h)) x

within_is : (P : ℤ → Type 0) (low high : ℕ) (a : ℤ) → is_within low high a ≡ true → ((n : ℕ) → low ≤ n → n ≤ high → P (pos n)) → P a
within_is P low high (pos n) h f = let p = and_parts (nat_le low n) (nat_le n high) h in f n (leb-true low n p.0) (leb-true n high p.1)
within_is P low high (negsuc n) h f = absurd (true≢false (sym h))

index_is : (P : ℤ → Type 0) (many : ℕ) (a : ℤ) → index many a ≡ true → ((n : ℕ) → n < many → P (pos n)) → P a
index_is P many (pos n) h f = f n (ltb-true n many h)
index_is P many (negsuc n) h f = absurd (true≢false (sym h))

some_kept : (b : Bool) (n : ℕ) → is_some (cond b (Some n) None) ≡ true → b ≡ true
some_kept true n h = refl
some_kept false n h = absurd (true≢false (sym h))

small_is : (P : ℤ → Type 0) (a : ℤ) → is_small a ≡ true → ((n : ℕ) → n < 4294967296 → P (pos n)) → P a
small_is P (pos n) h f = f n (ltb-true n 4294967296 (some_kept (nat_lt n 4294967296) n h))
small_is P (negsuc n) h f = absurd (true≢false (sym h))

number_is : (P : Reply → Type 0) (r : Reply) → is_number r ≡ true → ((z : ℤ) → P (replies.Number z)) → P r
number_is P (replies.Number z) h f = f z
number_is P _ h f = absurd (true≢false (sym h))

u32_is : (P : Reply → Type 0) (r : Reply) → is_u32_reply r ≡ true → ((n : ℕ) → n < 4294967296 → P (replies.Number (pos n))) → P r
u32_is P (replies.Number z) h f = small_is (λ x. P (replies.Number x)) z h f
u32_is P _ h f = absurd (true≢false (sym h))

-- ---- all words: no number, and a reply

module _ (Q : ℤ → ℤ → Reply → Type 0) where
  bare_is : (a b : ℤ) (r : Reply) → bare a b ≡ true → Q (pos 0) (pos 0) r → Q a b r
  bare_is a b r h x =
      let p = and_parts (int_eq a (pos 0)) (int_eq b (pos 0)) h in
      zero_is (λ y. Q y b r) a p.0 (zero_is (λ y. Q (pos 0) y r) b p.1 x)

  pub by_bare : (a b : ℤ) (r q : Reply) → (bare a b && reply_eq r q) ≡ true → Q (pos 0) (pos 0) q → Q a b r
  by_bare a b r q h x = let p = and_parts (bare a b) (reply_eq r q) h in bare_is a b r p.0 (reply_is (λ y. Q (pos 0) (pos 0) y) r q p.1 x)

  pub by_bare_small : (a b : ℤ) (r : Reply) → (bare a b && is_u32_reply r) ≡ true → ((n : ℕ) → n < 4294967296 → Q (pos 0) (pos 0) (replies.Number (pos n))) → Q a b r
  by_bare_small a b r h f = let p = and_parts (bare a b) (is_u32_reply r) h in bare_is a b r p.0 (u32_is (λ y. Q (pos 0) (pos 0) y) r p.1 f)

  pub by_bare_thread : {count : ℕ} (a b : ℤ) (r : Reply) → (bare a b && is_thread_reply count r) ≡ true → Q (pos 0) (pos 0) replies.Nobody → ((t : ThreadNo) → t.0 < count → Q (pos 0) (pos 0) (replies.Thread t)) → Q a b r
  by_bare_thread {count} a b r h none f = let p = and_parts (bare a b) (is_thread_reply count r) h in bare_is a b r p.0 (thread_or_none r p.1)
    where
      thread_or_none : (r : Reply) → is_thread_reply count r ≡ true → Q (pos 0) (pos 0) r
      thread_or_none (replies.Thread t) k = f t (ltb-true t.0 count k)
      thread_or_none replies.Nobody k = none
      thread_or_none _ k = absurd (true≢false (sym k))

  pub by_bare_answer : (a b : ℤ) (r : Reply) → (bare a b && is_answer r) ≡ true → Q (pos 0) (pos 0) replies.True → Q (pos 0) (pos 0) replies.False → Q a b r
  by_bare_answer a b r h positive negative =
      let p = and_parts (bare a b) (is_answer r) h in
      bare_is a b r p.0 (elim (or_cases (reply_eq r replies.True) (reply_eq r replies.False) p.1) [
        | inl k ↦ reply_is (λ y. Q (pos 0) (pos 0) y) r replies.True k positive
        | inr k ↦ reply_is (λ y. Q (pos 0) (pos 0) y) r replies.False k negative
      ])

  pub by_ready : (a b : ℤ) (r : Reply) → (bare a b && is_outcome r) ≡ true → ((v : ℤ) → Q (pos 0) (pos 0) (replies.Outcome (outcomes.Value v))) → ((e : ℕ) → Q (pos 0) (pos 0) (replies.Outcome (outcomes.Exception e)))
      → Q (pos 0) (pos 0) (replies.Outcome outcomes.Broken) → Q a b r
  by_ready a b r h value exception broken = let p = and_parts (bare a b) (is_outcome r) h in bare_is a b r p.0 (outcome r p.1)
    where
      each : (o : Outcome) → Q (pos 0) (pos 0) (replies.Outcome o)
      each (outcomes.Value v) = value v
      each (outcomes.Exception e) = exception e
      each outcomes.Broken = broken

      outcome : (r : Reply) → is_outcome r ≡ true → Q (pos 0) (pos 0) r
      outcome (replies.Outcome o) k = each o
      outcome _ k = absurd (true≢false (sym k))

  -- ---- one number, and a reply

  pub by_one : (low high : ℕ) (a b : ℤ) (r q : Reply) → (one_number low high a b && reply_eq r q) ≡ true → ((n : ℕ) → low ≤ n → n ≤ high → Q (pos n) (pos 0) q) → Q a b r
  by_one low high a b r q h f =
      let p = and_parts (one_number low high a b) (reply_eq r q) h in
      let m = and_parts (is_within low high a) (int_eq b (pos 0)) p.0 in
      within_is (λ x. Q x b r) low high a m.0 (λ n least most. zero_is (λ y. Q (pos n) y r) b m.1 (reply_is (λ z. Q (pos n) (pos 0) z) r q p.1 (f n least most)))

  pub by_one_small : (low high : ℕ) (a b : ℤ) (r : Reply) → (one_number low high a b && is_u32_reply r) ≡ true → ((n k : ℕ) → low ≤ n → n ≤ high → k < 4294967296 → Q (pos n) (pos 0) (replies.Number (pos k))) → Q a b r
  by_one_small low high a b r h f =
      let p = and_parts (one_number low high a b) (is_u32_reply r) h in
      let m = and_parts (is_within low high a) (int_eq b (pos 0)) p.0 in
      within_is (λ x. Q x b r) low high a m.0 (λ n least most. zero_is (λ y. Q (pos n) y r) b m.1 (u32_is (λ z. Q (pos n) (pos 0) z) r p.1 (λ k lt. f n k least most lt)))

  word_is : (a b : ℤ) (r : Reply) → word a b ≡ true → ((n : ℕ) → n < 4294967296 → Q (pos n) (pos 0) r) → Q a b r
  word_is a b r h f =
      let m = and_parts (is_small a) (int_eq b (pos 0)) h in
      small_is (λ x. Q x b r) a m.0 (λ n lt. zero_is (λ y. Q (pos n) y r) b m.1 (f n lt))

  pub by_word : (a b : ℤ) (r q : Reply) → (word a b && reply_eq r q) ≡ true → ((n : ℕ) → n < 4294967296 → Q (pos n) (pos 0) q) → Q a b r
  by_word a b r q h f = let p = and_parts (word a b) (reply_eq r q) h in word_is a b r p.0 (λ n lt. reply_is (λ z. Q (pos n) (pos 0) z) r q p.1 (f n lt))

  pub by_deregistered : (a b : ℤ) (r : Reply) → (word a b && is_deregistered r) ≡ true → ((n : ℕ) → n < 4294967296 → Q (pos n) (pos 0) replies.Removed) → ((n : ℕ) → n < 4294967296 → Q (pos n) (pos 0) replies.Ran)
      → ((n : ℕ) → n < 4294967296 → Q (pos n) (pos 0) replies.Inside) → Q a b r
  by_deregistered a b r h removed ran inside = let p = and_parts (word a b) (is_deregistered r) h in word_is a b r p.0 (λ n lt. which n lt p.1)
    where
      which : (n : ℕ) → n < 4294967296 → is_deregistered r ≡ true → Q (pos n) (pos 0) r
      which n lt k = elim (or_cases (reply_eq r replies.Removed || reply_eq r replies.Ran) (reply_eq r replies.Inside) k) [
        | inl x ↦ elim (or_cases (reply_eq r replies.Removed) (reply_eq r replies.Ran) x) [
          | inl y ↦ reply_is (λ z. Q (pos n) (pos 0) z) r replies.Removed y (removed n lt)
          | inr y ↦ reply_is (λ z. Q (pos n) (pos 0) z) r replies.Ran y (ran n lt)
        ]
        | inr x ↦ reply_is (λ z. Q (pos n) (pos 0) z) r replies.Inside x (inside n lt)
      ]

  -- ---- an index, a value and a reply

  pub by_index : (many : ℕ) (a b : ℤ) (r q : Reply) → (index many a && reply_eq r q) ≡ true → ((n : ℕ) → n < many → Q (pos n) b q) → Q a b r
  by_index many a b r q h f =
      let p = and_parts (index many a) (reply_eq r q) h in
      index_is (λ x. Q x b r) many a p.0 (λ n lt. reply_is (λ z. Q (pos n) b z) r q p.1 (f n lt))

  pub by_indexed : (many : ℕ) (a b : ℤ) (r : Reply) → (index many a && is_number r) ≡ true → ((n : ℕ) (z : ℤ) → n < many → Q (pos n) b (replies.Number z)) → Q a b r
  by_indexed many a b r h f =
      let p = and_parts (index many a) (is_number r) h in
      index_is (λ x. Q x b r) many a p.0 (λ n lt. number_is (λ z. Q (pos n) b z) r p.1 (λ z. f n z lt))

  pub by_read : (many : ℕ) (a b : ℤ) (r : Reply) → (index many a && int_eq b (pos 0) && is_number r) ≡ true → ((n : ℕ) (z : ℤ) → n < many → Q (pos n) (pos 0) (replies.Number z)) → Q a b r
  by_read many a b r h f =
      let p = and_parts (index many a && int_eq b (pos 0)) (is_number r) h in
      let m = and_parts (index many a) (int_eq b (pos 0)) p.0 in
      index_is (λ x. Q x b r) many a m.0 (λ n lt. zero_is (λ y. Q (pos n) y r) b m.1 (number_is (λ z. Q (pos n) (pos 0) z) r p.1 (λ z. f n z lt)))

  -- ---- the outcome of `set`

  pub by_outcome : (a b : ℤ) (r : Reply) → (is_some (outcome_in (small_of a) b) && reply_eq r replies.Ok) ≡ true → ((v : ℤ) → Q (pos 0) v replies.Ok) → ((e : ℕ) → e < 4294967296 → Q (pos 1) (pos e) replies.Ok)
      → Q (pos 2) (pos 0) replies.Ok → Q a b r
  by_outcome a b r h value exception broken =
      let p = and_parts (is_some (outcome_in (small_of a) b)) (reply_eq r replies.Ok) h in
      reply_is (λ z. Q a b z) r replies.Ok p.1 (which a b p.0)
    where
      some_small : (o : Option ℕ) → is_some (option_map outcomes.Exception o) ≡ true → is_some o ≡ true
      some_small None k = k
      some_small (Some e) k = refl

      no_more : (c : Bool) (m : ℕ) (z : ℤ) → is_some (outcome_in (cond c (Some (suc (suc (suc m)))) None) z) ≡ true → ⊥
      no_more true m z k = true≢false (sym k)
      no_more false m z k = true≢false (sym k)

      which : (x y : ℤ) → is_some (outcome_in (small_of x) y) ≡ true → Q x y replies.Ok
      which (pos zero) y k = value y
      which (pos (suc zero)) y k = small_is (λ z. Q (pos 1) z replies.Ok) y (some_small (small_of y) k) exception
      which (pos (suc (suc zero))) (pos zero) k = broken
      which (pos (suc (suc zero))) (pos (suc n)) k = absurd (true≢false (sym k))
      which (pos (suc (suc zero))) (negsuc n) k = absurd (true≢false (sym k))
      which (pos (suc (suc (suc m)))) y k = absurd (no_more (nat_lt (suc (suc (suc m))) 4294967296) m y k)
      which (negsuc m) y k = absurd (true≢false (sym k))
