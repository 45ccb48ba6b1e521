-- The canonical text of the made scenario means it.
use Rattle.std.proofs.Common.{◌≡◌, ℕ, zero, suc, ◌+◌, ◌*◌, ◌^◌, ◌≤◌, ◌<◌, ◌&&◌, not, Bool, true, false, List, [], ◌∷◌, ◌++◌, map, length, codes, refl, sym, ap, subst, ◌∙◌, length-append, arith}
use Rattle.std.specs.Prelude.{Ok}
use Rattle.std.specs.List.{AllByRecursion, list_all, flat_map}
use Rattle.std.specs.Str.{bytes_eq}
use Rattle.std.proofs.lemmas.Bool.{and_parts, not-true}
use Rattle.cx_scene.specs.declared.call.Call.{Call}
use Rattle.cx_scene.specs.declared.call.Call.TheVariants as calls
use Rattle.cx_text.specs.Words.{Filled, main_word, is_name, scenario_lines}
use Rattle.cx_text.proofs.Rows.{IsWellFilled}
use Rattle.cx_script.specs.declared.declared.Declared.{Declared}
use Rattle.cx_script.specs.declared.declared.Declared.TheVariants as declared
use Rattle.cx_script.specs.Earlier.{made_of, place_after, may_stand, part_of, subject, ADeclaration}
use Rattle.cx_script.specs.Faults.{is_too_many, has_unknown, has_wrong_kind, has_outside, is_twice, is_over_latch, is_bad_order}
use Rattle.cx_script.specs.Script.{Names, Declaration, Script, meaning, declarations_of, as_list, call_of, calls_of, names_of, script_of, shown, line_of_declaration, line_of_call, written}
use Rattle.cx_script.specs.InOrder.{Block, block_lines, main_line, end_line, main_lines, in_order, AreClear, AreDeclarations, AreOthers, BlocksApart, AreOnce, IsInOrder, call_count, calls_in, AreScenario}
use Rattle.cx_script.proofs.LinesBack.{says_itself}
use Rattle.cx_script.proofs.OrderSays.{are_scenario}
use Rattle.cx_made.specs.Made.{from, lettered, jthread, jthreads, shared, declarations, puts, takes, starts_and_joins, bodies, made_with}
use Rattle.cx_made.proofs.Checks.{IsSimple, all_fit, says_again, all_back}
use Rattle.cx_made.proofs.Closed.{Body, named_bodies, names, declared_lines, front, block, blocks, mains, fine_one, fine_all, once_all, is_apart_from, are_apart, Closed}
use Rattle.cx_made.proofs.Bodies.{Said, all_said, all_bodies, count_is}

-- lines that fit their forms
abbrev AllFilled : List Filled → Type 0
AllFilled ls = AllByRecursion (IsWellFilled scenario_lines 1) ls

-- ---- declarations

eight : (a b c d e f g h : Bool) → (a && not b && not c && not d && not e && not f && not g && not h) ≡ true → (a ≡ true) × (b ≡ false) × (c ≡ false) × (d ≡ false) × (e ≡ false) × (f ≡ false) × (g ≡ false) × (h ≡ false)
eight true false false false false false false false k = (refl, refl, refl, refl, refl, refl, refl, refl)
eight true false false false false false false true k = absurd cc
eight true false false false false false true h k = absurd cc
eight true false false false false true g h k = absurd cc
eight true false false false true f g h k = absurd cc
eight true false false true e f g h k = absurd cc
eight true false true d e f g h k = absurd cc
eight true true c d e f g h k = absurd cc
eight false b c d e f g h k = absurd cc

clear_from : (e ls : List Filled) → AllFilled ls → fine_all e ls ≡ true → AreClear e ls
clear_from e [] filled h = tt
clear_from e (l ∷ ls) filled h =
    let x = and_parts (fine_one e l) (fine_all (e ++ l ∷ []) ls) h in
    let y = eight (may_stand (place_after e) (part_of l.form)) (is_too_many 1 e l) (has_unknown e l) (has_wrong_kind e l) (has_outside e l) (is_twice e l) (is_over_latch e l) (is_bad_order e l) x.0 in
    (record { itself = says_itself l filled.0; stands = y.0; few = y.1; known = y.2; kind = y.3; inside = y.4; once = y.5; latch = y.6; order = y.7 }, clear_from (e ++ l ∷ []) ls filled.1 x.1)

-- a jthread, a mutex or a condition
abbrev IsPlain : Declaration → Type 0
IsPlain d = plain d.what
  where
    plain : Declared → Type 0
    plain declared.JThread = true ≡ true
    plain (declared.Mutex n) = n < 10 ^ 20
    plain declared.Condition = true ≡ true
    plain _ = ⊥

plain_jthreads : (letter is : List ℕ) (rest : List Declaration) → AllByRecursion IsPlain rest → AllByRecursion IsPlain (jthreads letter is ++ rest)
plain_jthreads letter [] rest h = h
plain_jthreads letter (i ∷ is) rest h = (refl, plain_jthreads letter is rest h)

all_plain : (k : ℕ) → AllByRecursion IsPlain (declarations k)
all_plain k = (refl, plain_jthreads (codes "p") (from 0 k) (jthreads (codes "c") (from 0 k) ++ shared) (plain_jthreads (codes "c") (from 0 k) shared (omega arith, (refl, (refl, (refl, tt))))))

filled_one : (ns : Names) (name : List ℕ) (what : Declared) → IsPlain (record { name = name; what = what }) → is_name 1 name ≡ true → IsWellFilled scenario_lines 1 (line_of_declaration ns name what)
filled_one ns name declared.JThread h n = (n, tt)
filled_one ns name (declared.Mutex m) h n = (n, (h, tt))
filled_one ns name declared.Condition h n = (n, tt)
filled_one ns name _ h n = absurd h

filled_all : (ns : Names) (ds : List Declaration) → AllByRecursion IsPlain ds → list_all (λ (d : Declaration). is_name 1 d.name) ds ≡ true → AllFilled (map (λ (d : Declaration). line_of_declaration ns d.name d.what) ds)
filled_all ns [] h n = tt
filled_all ns (d ∷ ds) h n = let x = and_parts (is_name 1 d.name) (list_all (λ (d : Declaration). is_name 1 d.name) ds) n in (filled_one ns d.name d.what h.0 x.0, filled_all ns ds h.1 x.1)

declares_one : (ns : Names) (name : List ℕ) (what : Declared) → IsPlain (record { name = name; what = what }) → part_of (line_of_declaration ns name what).form ≡ ADeclaration
declares_one ns name declared.JThread h = refl
declares_one ns name (declared.Mutex m) h = refl
declares_one ns name declared.Condition h = refl
declares_one ns name _ h = absurd h

declares_all : (ns : Names) (ds : List Declaration) → AllByRecursion IsPlain ds → AreDeclarations (map (λ (d : Declaration). line_of_declaration ns d.name d.what) ds)
declares_all ns [] h = tt
declares_all ns (d ∷ ds) h = (declares_one ns d.name d.what h.0, declares_all ns ds h.1)

-- ---- names that are apart

others_are : (k : ℕ) (w : List ℕ) (bs : List Body) → is_apart_from w (map (λ (b : Body). b.name) bs) ≡ true → AreOthers w (map (block k) bs)
others_are k w [] h = tt
others_are k w (b ∷ bs) h = let x = and_parts (not (bytes_eq w b.name)) (is_apart_from w (map (λ (b : Body). b.name) bs)) h in (not-true (bytes_eq w b.name) x.0, others_are k w bs x.1)

blocks_are_apart : (k : ℕ) (bs : List Body) → are_apart (map (λ (b : Body). b.name) bs) ≡ true → BlocksApart (map (block k) bs)
blocks_are_apart k [] h = tt
blocks_are_apart k (b ∷ bs) h = let x = and_parts (is_apart_from b.name (map (λ (b : Body). b.name) bs)) (are_apart (map (λ (b : Body). b.name) bs)) h in (others_are k b.name bs x.0, blocks_are_apart k bs x.1)

-- ---- main's calls

abbrev IsMains : Call → Type 0
IsMains (calls.Start t) = true ≡ true
IsMains (calls.Join t) = true ≡ true
IsMains _ = ⊥

mains_simple : (c : Call) → IsMains c → IsSimple c
mains_simple (calls.Start t) h = refl
mains_simple (calls.Join t) h = refl
mains_simple _ h = absurd h

simple_mains : (cs : List Call) → AllByRecursion IsMains cs → AllByRecursion IsSimple cs
simple_mains [] h = tt
simple_mains (c ∷ cs) h = (mains_simple c h.0, simple_mains cs h.1)

starts_are : (is : List ℕ) (rest : List Call) → AllByRecursion IsMains rest → AllByRecursion IsMains (map (λ t. calls.Start (record { 0 = t })) is ++ rest)
starts_are [] rest h = h
starts_are (i ∷ is) rest h = (refl, starts_are is rest h)

joins_are : (is : List ℕ) → AllByRecursion IsMains (map (λ t. calls.Join (record { 0 = t })) is)
joins_are [] = tt
joins_are (i ∷ is) = (refl, joins_are is)

all_mains : (k : ℕ) → AllByRecursion IsMains (starts_and_joins k)
all_mains k = starts_are (from 1 (1 + k + k)) (map (λ t. calls.Join (record { 0 = t })) (from 2 (k + k))) (joins_are (from 2 (k + k)))

once_from : (e ls : List Filled) → once_all e ls ≡ true → AreOnce e ls
once_from e [] h = tt
once_from e (l ∷ ls) h = let x = and_parts (not (is_twice e l)) (once_all (e ++ l ∷ []) ls) h in (not-true (is_twice e l) x.0, once_from (e ++ l ∷ []) ls x.1)

-- ---- lengths, and equal parts

script_parts : (a b : List Declaration) (c d : List (List Call)) → a ≡ b → c ≡ d → ◌≡◌ {A = Script} (record { version = 1; declarations = a; bodies = c }) (record { version = 1; declarations = b; bodies = d })
script_parts a b c d p q = rw (p, q) refl

two_lists : {A : Type 0} (a b : A) (xs ys : List A) → a ≡ b → xs ≡ ys → a ∷ xs ≡ b ∷ ys
two_lists a b xs ys p q = rw (p, q) refl

long_blocks : (k : ℕ) (bs : List Body) → length (flat_map block_lines (map (block k) bs)) ≡ call_count (map (block k) bs) + length bs * 2
long_blocks k [] = refl
long_blocks k (b ∷ bs) =
    let a = long_blocks k bs in
    let c = length-append (block_lines (block k b)) (flat_map block_lines (map (block k) bs)) in
    let d = length-append (map (line_of_call (names k)) b.calls) (end_line ∷ []) in
    omega (arith, a, c, d)

long_map : {X Y : Type 0} (f : X → Y) (xs : List X) → length (map f xs) ≡ length xs
long_map f [] = refl
long_map f (x ∷ xs) = ap suc (long_map f xs)

long_from : (i k : ℕ) → length (from i k) ≡ k
long_from i zero = refl
long_from i (suc k) = ap suc (long_from (i + 1) k)

-- the calls that lines say under these names, and what lines say
abbrev calls_as : List Filled → Names → List Filled → List Call
calls_as f m ls = flat_map (λ (l : Filled). as_list (call_of m (made_of f (subject l)) l l.form)) ls

abbrev script_with : Names → List Filled → Script
script_with m ls = record { version = 1; declarations = declarations_of m ls; bodies = map (calls_of m ls) m.threads }

module _ (k n : ℕ) (closed : Closed k) (pos_k : 0 < k) (few_k : k ≤ 8) (few : n ≤ 4800) (short : n ≤ 600 * k) where
  abbrev ns : Names
  ns = names k

  abbrev whole : List Filled
  whole = in_order (declared_lines k) (blocks k n) (mains k)

  told : AllByRecursion (Said k) (named_bodies k n)
  told = all_said k n few short closed

  long_mains : length (mains k) ≡ 1 + k + k + (k + k)
  long_mains =
      let a = long_map (line_of_call ns) (starts_and_joins k) in
      let b = length-append (map (λ t. calls.Start (record { 0 = t })) (from 1 (1 + k + k))) (map (λ t. calls.Join (record { 0 = t })) (from 2 (k + k))) in
      let c = long_map (λ t. calls.Start (record { 0 = t })) (from 1 (1 + k + k)) in
      let d = long_map (λ t. calls.Join (record { 0 = t })) (from 2 (k + k)) in
      let e = long_from 1 (1 + k + k) in
      let f = long_from 2 (k + k) in
      omega (arith, a, b, c, d, e, f)

  in_its_order : IsInOrder (declared_lines k) (blocks k n) (mains k)
  in_its_order =
      let count = count_is k n few short pos_k in
      record {
        declared = declares_all ns (declarations k) (all_plain k);
        clear = clear_from [] (front k) (((refl, tt)), filled_all ns (declarations k) (all_plain k) closed.named) closed.fine;
        bodies = all_bodies k n few short (named_bodies k n) told;
        apart = blocks_are_apart k (named_bodies k n) (closed.apart n);
        fit = all_fit ns (front k) main_word (starts_and_joins k) (simple_mains (starts_and_joins k) (all_mains k)) closed.main_fits;
        once = once_from (front k ++ main_line ∷ []) (mains k) closed.main_once;
        few = omega (arith, long_mains, few_k);
        all_few = omega (arith, long_mains, few_k, few, count);
        ends = closed.main_ends;
      }

  read : AreScenario (declared_lines k) (blocks k n) (mains k)
  read = are_scenario (declared_lines k) (blocks k n) (mains k) in_its_order

  -- ---- the scenario again

  abbrev own : Names
  own = names_of (front k)

  one_again : (cs : List Call) → list_all (says_again ns (front k)) cs ≡ true → calls_in (front k) (map (line_of_call ns) cs) ≡ cs
  one_again cs says = subst (λ (m : Names). calls_as (front k) m (map (line_of_call ns) cs) ≡ cs) (sym closed.own_names) (all_back ns (front k) cs says)

  each_again : (bs : List Body) → AllByRecursion (Said k) bs → AllByRecursion (λ (b : Block). calls_of own whole b.name ≡ calls_in (front k) b.calls) (map (block k) bs)
      → map (calls_of own whole) (map (λ (b : Body). b.name) bs) ≡ map (λ (b : Body). b.calls) bs
  each_again [] h f = refl
  each_again (b ∷ bs) h f = two_lists _ _ _ _ (f.0 ∙ one_again b.calls h.0.says) (each_again bs h.1 f.1)

  again : script_of 1 whole ≡ made_with k n
  again =
      let says = read.says in
      let ds : declarations_of own whole ≡ declarations k = says.declarations own ∙ ap (λ (m : Names). declarations_of m (front k)) closed.own_names ∙ closed.own_declarations in
      let threads : own.threads ≡ main_word ∷ map (λ (b : Body). b.name) (named_bodies k n) = ap (λ (m : Names). m.threads) closed.own_names ∙ closed.threads n in
      let first : calls_of own whole main_word ≡ starts_and_joins k = says.main ∙ one_again (starts_and_joins k) closed.main_says in
      let bs : map (calls_of own whole) own.threads ≡ bodies k n =
      ap (map (calls_of own whole)) threads ∙ two_lists _ _ _ _ first (each_again (named_bodies k n) told says.bodies) ∙ sym (closed.all_bodies n) in
      ap (λ (m : Names). script_with m whole) says.names ∙ script_parts _ _ _ _ ds bs

  -- ---- the text

  long_declarations : length (declared_lines k) ≡ 5 + k + k
  long_declarations =
      let a = long_map (λ (d : Declaration). line_of_declaration ns d.name d.what) (declarations k) in
      let b = length-append (jthreads (codes "p") (from 0 k)) (jthreads (codes "c") (from 0 k) ++ shared) in
      let c = length-append (jthreads (codes "c") (from 0 k)) shared in
      let d = long_map (λ i. jthread (lettered (codes "p") i)) (from 0 k) in
      let e = long_map (λ i. jthread (lettered (codes "c") i)) (from 0 k) in
      let f = long_from 0 k in
      omega (arith, a, b, c, d, e, f)

  long_bodies : length (named_bodies k n) ≡ 1 + k + k
  long_bodies =
      let a = length-append {A = Body} (map (λ i. record { name = lettered (codes "p") i; calls = puts k n i }) (from 0 k)) (map (λ i. record { name = lettered (codes "c") i; calls = takes k n i }) (from 0 k)) in
      let b = long_map {Y = Body} (λ i. record { name = lettered (codes "p") i; calls = puts k n i }) (from 0 k) in
      let c = long_map {Y = Body} (λ i. record { name = lettered (codes "c") i; calls = takes k n i }) (from 0 k) in
      let d = long_from 0 k in
      omega (arith, a, b, c, d)

  few_lines : length whole ≤ 60000
  few_lines =
      let a = length-append (front k) (flat_map block_lines (blocks k n) ++ main_lines (mains k)) in
      let b = length-append (flat_map block_lines (blocks k n)) (main_lines (mains k)) in
      let c = long_blocks k (named_bodies k n) in
      let d = count_is k n few short pos_k in
      let e = length-append (mains k) (end_line ∷ []) in
      omega (arith, a, b, c, d, e, long_mains, long_declarations, long_bodies, few_k, few)

  text_is : written (made_with k n) ≡ flat_map shown whole
  unfolding written
  text_is = ap (λ (ls : List Filled). flat_map shown ls) (closed.lines n)

  pub means : meaning 8388608 (written (made_with k n)) ≡ Ok (made_with k n)
  means =
      let most = read.short in
      let within : length (flat_map shown whole) ≤ 8388608 = omega (arith, most, few_lines) in
      ap (meaning 8388608) text_is ∙ read.means 8388608 within ∙ ap (λ (s : Script). Ok s) again
