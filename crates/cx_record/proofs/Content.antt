-- The lists of a record, as a reader collects them line by line.
use Rattle.std.proofs.Common.{◌≡◌, ℕ, suc, Bool, true, false, List, [], ◌∷◌, ◌++◌, Option, Some, None, refl, sym, ap, ◌∙◌, append_assoc}
use Rattle.std.proofs.lemmas.List.{append-nil}
use Rattle.std.proofs.lemmas.Bool.{true≢false}
use Rattle.cx_items.specs.declared.item.Item.{Item}
use Rattle.cx_record.specs.ItemLines.{Line, as_list, item_said, items_from, lists_from, Part, AVersion, AList, AMark, AnItem, AnEnd, TheLast, AStuck, part_of}
use Rattle.cx_record.specs.RecordFaults.{Place, Opening, Between, Inside, Over, Stage, stands_at}
use Rattle.cx_record.specs.RecordSteps.{State, state_with}

-- all lists, where these lines are still to come
abbrev pub content_at : State → List Line → Place → List (Option (List Item))
content_at s ls Inside = s.done ++ Some (s.under_way ++ items_from s.roster s.stage.lists ls) ∷ lists_from s.roster (suc s.stage.lists) ls
content_at s ls _ = s.done ++ lists_from s.roster s.stage.lists ls

abbrev pub content : State → List Line → List (Option (List Item))
content s ls = content_at s ls s.stage.place

module _ (s : State) (l : Line) (rest : List Line) where
  by_part : (q : Place) (p : Part) → s.stage.place ≡ q → part_of l.form ≡ p → stands_at s.roster s.stage l q p ≡ true → content (state_with s l) rest ≡ content s (l ∷ rest)
  by_part Opening AVersion e f h = rw (e, f) refl
  by_part Between AList e f h = rw (e, f) refl
  by_part Between AMark e f h = rw (e, f) (append_assoc s.done (None ∷ []) (lists_from s.roster (suc s.stage.lists) rest))
  by_part Between TheLast e f h = rw (e, f) refl
  by_part Inside AnItem e f h = rw (e, f) (ap (λ (xs : List Item). s.done ++ Some xs ∷ lists_from s.roster (suc s.stage.lists) rest) (append_assoc s.under_way (as_list (item_said s.roster s.stage.lists l)) (items_from s.roster s.stage.lists rest)))
  by_part Inside AnEnd e f h = rw (e, f, append-nil) (append_assoc s.done (Some s.under_way ∷ []) (lists_from s.roster (suc s.stage.lists) rest))
  by_part Opening AList e f h = absurd (true≢false (sym h))
  by_part Opening AMark e f h = absurd (true≢false (sym h))
  by_part Opening AnItem e f h = absurd (true≢false (sym h))
  by_part Opening AnEnd e f h = absurd (true≢false (sym h))
  by_part Opening TheLast e f h = absurd (true≢false (sym h))
  by_part Opening AStuck e f h = absurd (true≢false (sym h))
  by_part Between AVersion e f h = absurd (true≢false (sym h))
  by_part Between AnItem e f h = absurd (true≢false (sym h))
  by_part Between AnEnd e f h = absurd (true≢false (sym h))
  by_part Between AStuck e f h = absurd (true≢false (sym h))
  by_part Inside AVersion e f h = absurd (true≢false (sym h))
  by_part Inside AList e f h = absurd (true≢false (sym h))
  by_part Inside AMark e f h = absurd (true≢false (sym h))
  by_part Inside TheLast e f h = absurd (true≢false (sym h))
  by_part Inside AStuck e f h = absurd (true≢false (sym h))
  by_part Over p e f h = absurd (over p h)
    where
      over : (p : Part) → stands_at s.roster s.stage l Over p ≡ true → ⊥
      over AVersion h = true≢false (sym h)
      over AList h = true≢false (sym h)
      over AMark h = true≢false (sym h)
      over AnItem h = true≢false (sym h)
      over AnEnd h = true≢false (sym h)
      over TheLast h = true≢false (sym h)
      over AStuck h = true≢false (sym h)

  -- one line more that stands in its place leaves the lists what they are
  pub content_next : stands_at s.roster s.stage l s.stage.place (part_of l.form) ≡ true → content (state_with s l) rest ≡ content s (l ∷ rest)
  content_next h = by_part s.stage.place (part_of l.form) refl refl h
