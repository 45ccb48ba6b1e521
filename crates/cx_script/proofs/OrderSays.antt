-- Lines in the order of a canonical text say the declarations of their front, and the calls of each body; their text is read as them.
use Rattle.std.proofs.Common.{◌≡◌, inl, inr, ℕ, ◌*◌, ◌≤◌, Bool, true, false, cond, List, [], ◌∷◌, ◌++◌, filter, length, map, None, refl, sym, ap, subst, ◌∙◌}
use Rattle.std.specs.Prelude.{Ok}
use Rattle.std.specs.List.{AllByRecursion, flat_map}
use Rattle.std.specs.Str.{bytes_eq}
use Rattle.std.proofs.lemmas.Bool.{cases_Bool}
use Rattle.std.proofs.lemmas.Slice.Eq.{bytes_eq-Decides}
use Rattle.cx_text.specs.Lines.{Line, lines_of}
use Rattle.cx_text.specs.Words.{Filled, main_word, words_for}
use Rattle.cx_text.proofs.Lexing.{plain_line, lines_back, text_of}
use Rattle.cx_script.specs.Earlier.{Over, made_of, place_after, subject}
use Rattle.cx_script.specs.Faults.{Read, first_fault, read_all, said_by, makes_thread, makes_object, makes_callback}
use Rattle.cx_script.specs.Script.{Names, meaning, names_of, calls_of, as_list, call_of, script_of, shown}
use Rattle.cx_script.specs.InOrder.{Block, block_lines, main_lines, front_with, in_order, AreOthers, BlocksApart, IsBody, IsInOrder, calls_in, SaysInOrder, AreScenario}
use Rattle.cx_script.specs.Walk.{walk}
use Rattle.cx_script.proofs.Walking.{walk_is_first}
use Rattle.cx_script.proofs.Sound.{AreFine}
use Rattle.cx_script.proofs.Shape.{AreCalls}
use Rattle.cx_script.proofs.Blocks.{raw_calls, lookup, calls_past, calls_among, mains_among, AllCalls, NotMain}
use Rattle.cx_script.proofs.Agree.{Agree, DeclareNone, agree_past, made_agree}
use Rattle.cx_script.proofs.Settled.{none_append}
use Rattle.cx_script.proofs.ReadBack.{all_back, are_lines, read_as, text_back}
use Rattle.cx_script.proofs.Written.{canonical_all, fine_filled, short_text, shown_text}
use Rattle.cx_script.proofs.WrittenRead.{shown_all}
use Rattle.cx_script.proofs.Faultless.{walk_clear}
use Rattle.cx_script.proofs.Whole.{meaning_is, none_of_blocks, none_of_main}
use Rattle.cx_script.proofs.Canon.{declarations_front}
use Rattle.cx_script.proofs.OrderFine.{fit_calls, order_fine}

-- ---- names

filter_past : (test : Filled → Bool) (rest : List Filled) → AllByRecursion (λ (l : Filled). test l ≡ false) rest → filter test rest ≡ []
filter_past test [] h = refl
filter_past test (l ∷ rest) h = rw h.0 (filter_past test rest h.1)

filter_front : (test : Filled → Bool) (ds rest : List Filled) → AllByRecursion (λ (l : Filled). test l ≡ false) rest → filter test (ds ++ rest) ≡ filter test ds
filter_front test [] rest h = filter_past test rest h
filter_front test (d ∷ ds) rest h = ap (λ (t : List Filled). cond (test d) (d ∷ t) t) (filter_front test ds rest h)

none_made : (rest : List Filled) → DeclareNone rest → AllByRecursion (λ (l : Filled). makes_thread l ≡ false) rest × AllByRecursion (λ (l : Filled). makes_object l ≡ false) rest × AllByRecursion (λ (l : Filled). makes_callback l ≡ false) rest
none_made [] h = (tt, tt, tt)
none_made (l ∷ rest) h = let r = none_made rest h.1 in ((rw h.0 refl, r.0), (rw h.0 refl, r.1), (rw h.0 refl, r.2))

names_at : (a b : List Filled) → filter makes_thread a ≡ filter makes_thread b → filter makes_object a ≡ filter makes_object b → filter makes_callback a ≡ filter makes_callback b → names_of a ≡ names_of b
names_at a b p q r = rw (p, q, r) refl

names_front : (ds rest : List Filled) → DeclareNone rest → names_of (ds ++ rest) ≡ names_of ds
names_front ds rest h =
    let n = none_made rest h in
    names_at (ds ++ rest) ds (filter_front makes_thread ds rest n.0) (filter_front makes_object ds rest n.1) (filter_front makes_callback ds rest n.2)

-- ---- calls

calls_agree : (ns : Names) (a b : List Filled) → Agree a b → (cs : List Filled)
    → flat_map (λ (l : Filled). as_list (call_of ns (made_of a (subject l)) l l.form)) cs ≡ flat_map (λ (l : Filled). as_list (call_of ns (made_of b (subject l)) l l.form)) cs
calls_agree ns a b h [] = refl
calls_agree ns a b h (l ∷ cs) = rw (made_agree a b h (subject l), calls_agree ns a b h cs) refl

body_calls : (front : List Filled) (bs : List Block) → AllByRecursion (IsBody front) bs → AllCalls bs
body_calls front [] h = tt
body_calls front (b ∷ bs) h = (fit_calls front b.name b.calls h.0.fit, body_calls front bs h.1)

other_way : (u w : List ℕ) → bytes_eq u w ≡ false → bytes_eq w u ≡ false
other_way u w h = elim (cases_Bool (bytes_eq w u)) [
  | inr e ↦ e
  | inl e ↦ let q : w ≡ u = (bytes_eq-Decides w u).0 e in let no : bytes_eq u w ≡ true = (bytes_eq-Decides u w).1 (sym q) in absurd (let r : false ≡ true = sym h ∙ no in cc)
]

never_main : (front : List Filled) (bs : List Block) → AllByRecursion (IsBody front) bs → NotMain bs
never_main front [] h = tt
never_main front (b ∷ bs) h = (other_way main_word b.name h.0.other, never_main front bs h.1)

same_self : (u : List ℕ) → bytes_eq u u ≡ true
same_self u = (bytes_eq-Decides u u).1 refl

found_past : (b : Block) (bs cs : List Block) → AreOthers b.name cs → AllByRecursion (λ (c : Block). lookup bs c.name ≡ c.calls) cs → AllByRecursion (λ (c : Block). lookup (b ∷ bs) c.name ≡ c.calls) cs
found_past b bs [] others h = tt
found_past b bs (c ∷ cs) others h = (rw others.0 h.0, found_past b bs cs others.1 h.1)

-- each body is found under its name
found : (bs : List Block) → BlocksApart bs → AllByRecursion (λ (c : Block). lookup bs c.name ≡ c.calls) bs
found [] h = tt
found (b ∷ bs) h = (rw (same_self b.name) refl, found_past b bs bs h.0 (found bs h.1))

module _ (ds : List Filled) (bs : List Block) (mains : List Filled) (h : IsInOrder ds bs mains) where
  abbrev rest : List Filled
  rest = flat_map block_lines bs ++ main_lines mains

  abbrev whole : List Filled
  whole = in_order ds bs mains

  main_calls : AreCalls mains
  main_calls = fit_calls (front_with ds) main_word mains h.fit

  block_calls : AllCalls bs
  block_calls = body_calls (front_with ds) bs h.bodies

  none_rest : DeclareNone rest
  none_rest = none_append (flat_map block_lines bs) (main_lines mains) (none_of_blocks bs block_calls) (none_of_main mains main_calls)

  agree : Agree whole (front_with ds)
  agree = agree_past (front_with ds) rest none_rest

  called : (name : List ℕ) (cs : List Filled) → raw_calls whole name ≡ cs → calls_of (names_of (front_with ds)) whole name ≡ calls_in (front_with ds) cs
  called name cs raw =
      ap (λ (ls : List Filled). flat_map (λ (l : Filled). as_list (call_of (names_of (front_with ds)) (made_of whole (subject l)) l l.form)) ls) raw
      ∙ calls_agree (names_of (front_with ds)) whole (front_with ds) agree cs

  main_raw : raw_calls whole main_word ≡ mains
  main_raw = calls_past ds rest main_word h.declared ∙ mains_among bs mains block_calls main_calls (never_main (front_with ds) bs h.bodies)

  body_raw : (name : List ℕ) → bytes_eq main_word name ≡ false → raw_calls whole name ≡ lookup bs name
  body_raw name other = calls_past ds rest name h.declared ∙ calls_among bs mains name block_calls main_calls other

  each_called : (cs : List Block) → AllByRecursion (IsBody (front_with ds)) cs → AllByRecursion (λ (c : Block). lookup bs c.name ≡ c.calls) cs
      → AllByRecursion (λ (b : Block). calls_of (names_of (front_with ds)) whole b.name ≡ calls_in (front_with ds) b.calls) cs
  each_called [] p q = tt
  each_called (c ∷ cs) p q = (called c.name c.calls (body_raw c.name p.0.other ∙ q.0), each_called cs p.1 q.1)

  says : SaysInOrder ds bs mains
  says = record {
    names = names_front (front_with ds) rest none_rest;
    declarations = λ ns. declarations_front ns (front_with ds) rest none_rest;
    main = called main_word mains main_raw;
    bodies = each_called bs h.bodies (found bs h.apart);
  }

  -- ---- the text

  fine : AreFine 1 [] whole × (place_after whole ≡ Over)
  fine = order_fine ds bs mains h

  text_is : flat_map shown whole ≡ text_of (map words_for whole)
  text_is = shown_text whole

  short : length (flat_map shown whole) ≤ 121 * length whole
  short = subst (λ (t : List ℕ). length t ≤ 121 * length whole) (sym text_is) (short_text whole (fine_filled [] whole fine.0))

  module _ (limit : ℕ) (within : length (text_of (map words_for whole)) ≤ limit) where
    abbrev text : List ℕ
    text = text_of (map words_for whole)

    clear : first_fault (lines_of limit text) ≡ None
    clear =
        let canonical = canonical_all whole (fine_filled [] whole fine.0) in
        let lines : List Line = map plain_line (map words_for whole) in
        let reads : read_all lines ≡ map read_as whole = all_back 1 whole canonical in
        ap first_fault (lines_back limit (map words_for whole) (are_lines 1 whole canonical) within)
        ∙ sym (walk_is_first lines)
        ∙ ap (λ (t : List Read). walk 1 0 [] t) reads
        ∙ walk_clear whole fine.0 (shown_all whole (fine_filled [] whole fine.0)) fine.1

    said : said_by (read_all (lines_of limit text)) ≡ whole
    said = text_back 1 limit whole (canonical_all whole (fine_filled [] whole fine.0)) within

    read : meaning limit text ≡ Ok (script_of 1 whole)
    read = meaning_is limit text None clear ∙ ap (λ (ls : List Filled). Ok (script_of 1 ls)) said

  pub are_scenario : AreScenario ds bs mains
  are_scenario = record {
    short = short;
    means = λ limit within. subst (λ (t : List ℕ). meaning limit t ≡ Ok (script_of 1 whole)) (sym text_is) (read limit (subst (λ (t : List ℕ). length t ≤ limit) text_is within));
    says = says;
  }
