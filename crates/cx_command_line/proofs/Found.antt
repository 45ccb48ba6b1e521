-- What `clap` finds in words is what they ask for.
use Rattle.std.proofs.Common.{◌≡◌, ◌⊎◌, inl, inr, ℕ, ◌^◌, Bool, true, false, ◌&&◌, ◌||◌, ◌==◌, List, [], ◌∷◌, length, nat_lt, Option, Some, None, refl, sym, ap, ap₂, subst, ◌∙◌, codes, eqb-true}
use Rattle.std.specs.Prelude.{fold, find, is_some, option_map, if◌then◌else◌, nat_le, Box}
use Rattle.std.specs.Box.{box_value}
use Rattle.std.specs.List.{list_any}
use Rattle.std.specs.Str.{bytes_eq}
use Rattle.std.proofs.lemmas.Bool.{cases_Bool, or_parts}
use Rattle.std.proofs.lemmas.Slice.Eq.{bytes_eq-Decides}
use Rattle.clap.specs.Walk.{Held, Names, Row, Text, Walk, value, answers_to, finished, nothing_held, settled, walk, walked}
use Rattle.clap.specs.Faults.{check_fault, defaults_fault, entered_fault, fault_of, level_fault, settle_fault, step_fault, stray_fault, turn_fault, walk_fault}
use Rattle.clap.specs.Kinds.{Kinds, or_else}
use Rattle.clap.specs.Simple.{App, Shape, built, built_leaf, entered, inherited, marked_built, names_of, new_rule, on_top, subcommand_of, subcommand_rows, with_leaf_noted}
use Rattle.clap.specs.declared.error.kind.ErrorKind.{ErrorKind}
use Rattle.clap.specs.declared.parser.matches.ArgMatches.TheViews.{out-SubCommand}
use Rattle.clap.specs.declared.parser.matches.SubCommand.{SubCommand}
use Rattle.clap.specs.declared.error.kind.ErrorKind.TheVariants as kind
use Rattle.clap.proofs.OnLiterals.{clap_on_literals}
use Rattle.cx_command_line.specs.Words.{digits_from, seed_of, items_of}
use Rattle.cx_command_line.specs.Asked.{command_of, seeded, made}
use Rattle.cx_command_line.specs.Forms.{alone, with_one, forms, is_flag, command_in, Answers}
use Rattle.cx_command_line.specs.declared.command.Command.{Command}
use Rattle.cx_command_line.proofs.Plain.{no_dashes, no_long, no_short, going, to_next, fails_at, stopped_at, collects, no_fault_behind}

abbrev program_word : Text
program_word = codes "cxthread"

-- `clap`'s command, as it is built
abbrev whole : App
whole = built forms

abbrev names : Names
names = names_of whole

-- ---- one level, from the end of its walk and the faults on the way

abbrev level_from : Shape → Bool → Kinds → Held → Kinds → Kinds
level_from s has below end f = or_else f (or_else below (or_else (settle_fault s.rules s.args_override_self end) (or_else (defaults_fault (settled s.rules end).rows s.rules) (check_fault s (finished s.rules end) has))))

abbrev top_from : Walk → Kinds → Kinds
top_from end f = level_from whole.top (is_some (entered whole end.stopped)) (entered_fault whole end.stopped) end.held f

-- behind a word that is known, all is left to the level of that word
below_fault : (name : Text) (rest : List Text) → top_from (fold (walked whole.top.rules names) (stopped_at nothing_held name []) rest) (walk_fault whole.top names (stopped_at nothing_held name []) rest) ≡ top_from (stopped_at nothing_held name rest) []
below_fault name rest = ap₂ top_from (collects whole.top.rules names nothing_held name [] rest) (no_fault_behind whole.top names nothing_held name [] rest)

below_found : (name : Text) (rest : List Text) → entered whole (fold (walked whole.top.rules names) (stopped_at nothing_held name []) rest).stopped ≡ entered whole (Some (name, rest))
below_found name rest = ap (λ (w : Walk). entered whole w.stopped) (collects whole.top.rules names nothing_held name [] rest)

-- ---- a level in which the first word behind its own, or the second, is too many

abbrev with_first : Shape → Text → List Text → Kinds → Kinds
with_first s x more t = level_from s false [] (walk s.rules [] nothing_held (x ∷ more)).held (or_else t (walk_fault s [] (walked s.rules [] (going 1 nothing_held) x) more))

pub first_fault : (s : Shape) (x : Text) (more : List Text) → is_flag x ≡ false → level_fault s [] nothing_held (x ∷ more) false [] ≡ with_first s x more (step_fault s 1 nothing_held value)
unfolding clap_on_literals
first_fault s x more plain = ap (with_first s x more) (fails_at s 1 x nothing_held plain)

-- ---- the levels behind each word

abbrev level_of : Shape → Shape
level_of s = built_leaf (inherited (on_top with_leaf_noted (on_top marked_built forms)).top s)

abbrev run_level : Shape
run_level = level_of (alone (codes "run"))

abbrev check_level : Shape
check_level = level_of (alone (codes "check"))

abbrev races_level : Shape
races_level = level_of (alone (codes "races"))

abbrev replay_level : Shape
replay_level = level_of (with_one (codes "replay") (new_rule (codes "seed")))

abbrev make_level : Shape
make_level = level_of (with_one (codes "make") (record (new_rule (codes "items")) { required = true }))

-- one word is held as the value of the first position
abbrev holding : Text → Text → Held
holding id x = record { rows = []; pending = Some (id, x ∷ []); skip = 0 }

-- ---- words behind which nothing stands: `run`, `check` and `races`

run_fault : (x : Text) (more : List Text) → is_flag x ≡ false → fault_of forms (program_word ∷ codes "run" ∷ x ∷ more) ≡ kind.UnknownArgument ∷ []
unfolding clap_on_literals
run_fault x more plain = below_fault (codes "run") (x ∷ more) ∙ ap (λ t. or_else t []) (first_fault run_level x more plain)

check_fault_ : (x : Text) (more : List Text) → is_flag x ≡ false → fault_of forms (program_word ∷ codes "check" ∷ x ∷ more) ≡ kind.UnknownArgument ∷ []
unfolding clap_on_literals
check_fault_ x more plain = below_fault (codes "check") (x ∷ more) ∙ ap (λ t. or_else t []) (first_fault check_level x more plain)

races_fault : (x : Text) (more : List Text) → is_flag x ≡ false → fault_of forms (program_word ∷ codes "races" ∷ x ∷ more) ≡ kind.UnknownArgument ∷ []
unfolding clap_on_literals
races_fault x more plain = below_fault (codes "races") (x ∷ more) ∙ ap (λ t. or_else t []) (first_fault races_level x more plain)

-- ---- words behind which one word stands: `replay` and `make`

-- the walk over one word, and the faults of the words after it
abbrev with_rest : Shape → Kinds → Held → Kinds → Kinds
with_rest s t end f = level_from s false [] end (or_else t f)

replay_walk : (x : Text) → is_flag x ≡ false → walked replay_level.rules [] (going 1 nothing_held) x ≡ going 2 (holding (codes "seed") x)
replay_walk x plain = to_next replay_level.rules 1 x nothing_held plain

make_walk : (x : Text) → is_flag x ≡ false → walked make_level.rules [] (going 1 nothing_held) x ≡ going 2 (holding (codes "items") x)
make_walk x plain = to_next make_level.rules 1 x nothing_held plain

replay_one : (x : Text) → is_flag x ≡ false → fault_of forms (program_word ∷ codes "replay" ∷ x ∷ []) ≡ []
unfolding clap_on_literals
replay_one x plain =
    below_fault (codes "replay") (x ∷ [])
    ∙ ap (λ t. or_else t []) (first_fault replay_level x [] plain ∙ ap (λ (w : Walk). with_rest replay_level [] w.held []) (replay_walk x plain))

make_one : (x : Text) → is_flag x ≡ false → fault_of forms (program_word ∷ codes "make" ∷ x ∷ []) ≡ []
unfolding clap_on_literals
make_one x plain =
    below_fault (codes "make") (x ∷ [])
    ∙ ap (λ t. or_else t []) (first_fault make_level x [] plain ∙ ap (λ (w : Walk). with_rest make_level [] w.held []) (make_walk x plain))

-- a second word is too many
second_fault : (s : Shape) (h : Held) (y : Text) (more : List Text) → is_flag y ≡ false → walk_fault s [] (going 2 h) (y ∷ more) ≡ or_else (step_fault s 2 h value) (walk_fault s [] (walked s.rules [] (going 2 h) y) more)
unfolding clap_on_literals
second_fault s h y more plain = ap (λ t. or_else t (walk_fault s [] (walked s.rules [] (going 2 h) y) more)) (fails_at s 2 y h plain)

replay_two : (x y : Text) (more : List Text) → is_flag x ≡ false → is_flag y ≡ false → fault_of forms (program_word ∷ codes "replay" ∷ x ∷ y ∷ more) ≡ kind.UnknownArgument ∷ []
unfolding clap_on_literals
replay_two x y more p q =
    below_fault (codes "replay") (x ∷ y ∷ more)
    ∙ ap (λ t. or_else t [])
    (first_fault replay_level x (y ∷ more) p
    ∙ ap (λ (w : Walk). with_rest replay_level [] (walk replay_level.rules [] nothing_held (x ∷ y ∷ more)).held (walk_fault replay_level [] w (y ∷ more))) (replay_walk x p)
    ∙ ap (with_rest replay_level [] (walk replay_level.rules [] nothing_held (x ∷ y ∷ more)).held) (second_fault replay_level (holding (codes "seed") x) y more q))

make_two : (x y : Text) (more : List Text) → is_flag x ≡ false → is_flag y ≡ false → fault_of forms (program_word ∷ codes "make" ∷ x ∷ y ∷ more) ≡ kind.UnknownArgument ∷ []
unfolding clap_on_literals
make_two x y more p q =
    below_fault (codes "make") (x ∷ y ∷ more)
    ∙ ap (λ t. or_else t [])
    (first_fault make_level x (y ∷ more) p
    ∙ ap (λ (w : Walk). with_rest make_level [] (walk make_level.rules [] nothing_held (x ∷ y ∷ more)).held (walk_fault make_level [] w (y ∷ more))) (make_walk x p)
    ∙ ap (with_rest make_level [] (walk make_level.rules [] nothing_held (x ∷ y ∷ more)).held) (second_fault make_level (holding (codes "items") x) y more q))

-- the command of the one word
replay_found : (x : Text) → is_flag x ≡ false → command_in (subcommand_of forms (program_word ∷ codes "replay" ∷ x ∷ [])) ≡ option_map seeded (seed_of x)
unfolding clap_on_literals
replay_found x plain = ap command_in (below_found (codes "replay") (x ∷ [])) ∙ ap (λ (w : Walk). command_in (Some (codes "replay", finished replay_level.rules w.held))) (replay_walk x plain)

make_found : (x : Text) → is_flag x ≡ false → command_in (subcommand_of forms (program_word ∷ codes "make" ∷ x ∷ [])) ≡ option_map made (items_of x)
unfolding clap_on_literals
make_found x plain = ap command_in (below_found (codes "make") (x ∷ [])) ∙ ap (λ (w : Walk). command_in (Some (codes "make", finished make_level.rules w.held))) (make_walk x plain)

-- ---- a first word that isn't known

-- the word is none of those that are known
pub record IsOther (w : Text) : Type 0 where
  pub run : bytes_eq (codes "run") w ≡ false
  pub replay : bytes_eq (codes "replay") w ≡ false
  pub check : bytes_eq (codes "check") w ≡ false
  pub make : bytes_eq (codes "make") w ≡ false
  pub races : bytes_eq (codes "races") w ≡ false

not_met : (w : Text) → IsOther w → find (answers_to w) names ≡ None
not_met w h = rw (h.run, h.replay, h.check, h.make, h.races) refl

top_turn : (w : Text) → IsOther w → is_flag w ≡ false → turn_fault whole.top names (going 1 nothing_held) w ≡ stray_fault whole.top
top_turn w h plain = rw (not_met w h, no_dashes w plain, no_long w plain, no_short w plain) refl

abbrev with_turn : Text → List Text → Kinds → Kinds
with_turn w rest t =
    let end = walk whole.top.rules names nothing_held (w ∷ rest) in
    top_from end (or_else t (walk_fault whole.top names (walked whole.top.rules names (going 1 nothing_held) w) rest))

other_fault : (w : Text) (rest : List Text) → IsOther w → is_flag w ≡ false → fault_of forms (program_word ∷ w ∷ rest) ≡ kind.UnknownArgument ∷ kind.InvalidSubcommand ∷ []
unfolding clap_on_literals
other_fault w rest h plain = ap (with_turn w rest) (top_turn w h plain)

-- ---- what is asked for

-- a word that begins with a hyphen is no known word, and no number
flag_is : (b : ℕ) (bs name : Text) (n : ℕ) → b ≡ 45 → (45 == n) ≡ false → bytes_eq (b ∷ bs) (n ∷ name) ≡ false
flag_is b bs name n e other = rw (e, other) refl

flag_other : (w : Text) → is_flag w ≡ true → (bytes_eq w (codes "run") ≡ false) × (bytes_eq w (codes "replay") ≡ false) × (bytes_eq w (codes "check") ≡ false) × (bytes_eq w (codes "make") ≡ false) × (bytes_eq w (codes "races") ≡ false)
flag_other [] h = absurd cc
flag_other (b ∷ bs) h =
    let e : b ≡ 45 = eqb-true b 45 h in
    (flag_is b bs (codes "un") 114 e refl, flag_is b bs (codes "eplay") 114 e refl, flag_is b bs (codes "heck") 99 e refl, flag_is b bs (codes "ake") 109 e refl, flag_is b bs (codes "aces") 114 e refl)

no_third : (a b c : Bool) (x : Option ℕ) → (if (a && b && false) && c then x else None) ≡ None
no_third true true c x = refl
no_third true false c x = refl
no_third false b c x = refl

flag_seed : (x : Text) → is_flag x ≡ true → seed_of x ≡ None
unfolding seed_of
flag_seed [] h = absurd cc
flag_seed (b ∷ bs) h =
    let e : b ≡ 45 = eqb-true b 45 h in
    subst (λ n. seed_of (n ∷ bs) ≡ None) (sym e) (no_third (nat_lt 0 (length (45 ∷ bs))) (nat_le (length (45 ∷ bs)) 20) (nat_lt (digits_from 0 (45 ∷ bs)) (2 ^ 64)) (Some (digits_from 0 (45 ∷ bs))))

first_flag : (w : Text) (rest : List Text) → is_flag w ≡ true → None ≡ command_of (w ∷ rest)
first_flag w [] h = let o = flag_other w h in rw (o.0, o.1, o.2, o.4) refl
first_flag w (x ∷ []) h = let o = flag_other w h in rw (o.1, o.3) refl
first_flag w (x ∷ y ∷ rest) h = refl

-- a known word, or none, with a word behind it that is a flag
second_flag : (a b : Bool) (x : Text) → is_flag x ≡ true → None ≡ (if a then option_map seeded (seed_of x) else (if b then option_map made (items_of x) else None))
second_flag true b x h = rw (flag_seed x h) refl
second_flag false true x h = rw (flag_seed x h) refl
second_flag false false x h = refl

or_true : (a b : Bool) → (a || b) ≡ true → (a ≡ true) ⊎ (b ≡ true)
or_true true b h = inl refl
or_true false b h = inr h

pub flag_asks_none : (ws : List Text) → list_any is_flag ws ≡ true → None ≡ command_of ws
flag_asks_none [] h = refl
flag_asks_none (w ∷ []) h = elim (or_true (is_flag w) false h) [
  | inl f ↦ first_flag w [] f
  | inr f ↦ absurd cc
]
flag_asks_none (w ∷ x ∷ []) h = elim (or_true (is_flag w) (is_flag x || false) h) [
  | inl f ↦ first_flag w (x ∷ []) f
  | inr g ↦ elim (or_true (is_flag x) false g) [
    | inl f ↦ second_flag (bytes_eq w (codes "replay")) (bytes_eq w (codes "make")) x f
    | inr f ↦ absurd cc
  ]
]
flag_asks_none (w ∷ x ∷ y ∷ rest) h = refl

-- the words have no fault and ask for this, or have a fault and ask for nothing
abbrev Told : List Text → Type 0
Told ws = (c : Option Command) → Answers (program_word ∷ ws) c → c ≡ command_of ws

none_at_all : Told []
unfolding clap_on_literals
none_at_all c (inl h) = h.1
none_at_all c (inr h) = absurd (h.0 refl)

-- where there is a fault
refused : (ws : List Text) (k : ErrorKind) (ks : Kinds) → fault_of forms (program_word ∷ ws) ≡ k ∷ ks → None ≡ command_of ws → Told ws
refused ws k ks fault none c (inl h) = absurd (no_kind (sym fault ∙ h.0))
  where
    no_kind : k ∷ ks ≡ [] → ⊥
    no_kind e = cc
refused ws k ks fault none c (inr h) = h.1 ∙ none

-- where there is none
taken : (ws : List Text) → fault_of forms (program_word ∷ ws) ≡ [] → command_in (subcommand_of forms (program_word ∷ ws)) ≡ command_of ws → Told ws
taken ws fault is c (inl h) = h.1 ∙ is
taken ws fault is c (inr h) = absurd (h.0 fault)

alone_none : (w : Text) (rest : List Text) → bytes_eq w (codes "run") ≡ false → bytes_eq w (codes "replay") ≡ false → bytes_eq w (codes "check") ≡ false → bytes_eq w (codes "make") ≡ false → bytes_eq w (codes "races") ≡ false → None ≡ command_of (w ∷ rest)
alone_none w [] r p c m a = rw (r, p, c, a) refl
alone_none w (x ∷ []) r p c m a = rw (p, m) refl
alone_none w (x ∷ y ∷ rest) r p c m a = refl

run_told : (rest : List Text) → list_any is_flag rest ≡ false → Told (codes "run" ∷ rest)
unfolding clap_on_literals
run_told [] plain = taken (codes "run" ∷ []) refl refl
run_told (x ∷ []) plain = refused (codes "run" ∷ x ∷ []) kind.UnknownArgument [] (run_fault x [] (or_parts _ _ plain).0) refl
run_told (x ∷ y ∷ rest) plain = refused (codes "run" ∷ x ∷ y ∷ rest) kind.UnknownArgument [] (run_fault x (y ∷ rest) (or_parts _ _ plain).0) refl

check_told : (rest : List Text) → list_any is_flag rest ≡ false → Told (codes "check" ∷ rest)
unfolding clap_on_literals
check_told [] plain = taken (codes "check" ∷ []) refl refl
check_told (x ∷ []) plain = refused (codes "check" ∷ x ∷ []) kind.UnknownArgument [] (check_fault_ x [] (or_parts _ _ plain).0) refl
check_told (x ∷ y ∷ rest) plain = refused (codes "check" ∷ x ∷ y ∷ rest) kind.UnknownArgument [] (check_fault_ x (y ∷ rest) (or_parts _ _ plain).0) refl

races_told : (rest : List Text) → list_any is_flag rest ≡ false → Told (codes "races" ∷ rest)
unfolding clap_on_literals
races_told [] plain = taken (codes "races" ∷ []) refl refl
races_told (x ∷ []) plain = refused (codes "races" ∷ x ∷ []) kind.UnknownArgument [] (races_fault x [] (or_parts _ _ plain).0) refl
races_told (x ∷ y ∷ rest) plain = refused (codes "races" ∷ x ∷ y ∷ rest) kind.UnknownArgument [] (races_fault x (y ∷ rest) (or_parts _ _ plain).0) refl

replay_told : (rest : List Text) → list_any is_flag rest ≡ false → Told (codes "replay" ∷ rest)
unfolding clap_on_literals
replay_told [] plain = taken (codes "replay" ∷ []) refl refl
replay_told (x ∷ []) plain = let p = (or_parts _ _ plain).0 in taken (codes "replay" ∷ x ∷ []) (replay_one x p) (replay_found x p)
replay_told (x ∷ y ∷ rest) plain = let p = or_parts _ _ plain in refused (codes "replay" ∷ x ∷ y ∷ rest) kind.UnknownArgument [] (replay_two x y rest p.0 (or_parts _ _ p.1).0) refl

make_told : (rest : List Text) → list_any is_flag rest ≡ false → Told (codes "make" ∷ rest)
unfolding clap_on_literals
make_told [] plain = refused (codes "make" ∷ []) kind.MissingRequiredArgument [] refl refl
make_told (x ∷ []) plain = let p = (or_parts _ _ plain).0 in taken (codes "make" ∷ x ∷ []) (make_one x p) (make_found x p)
make_told (x ∷ y ∷ rest) plain = let p = or_parts _ _ plain in refused (codes "make" ∷ x ∷ y ∷ rest) kind.UnknownArgument [] (make_two x y rest p.0 (or_parts _ _ p.1).0) refl

same_word : (name w : Text) → bytes_eq name w ≡ true → w ≡ name
same_word name w h = sym ((bytes_eq-Decides name w).0 h)

other_way : (name w : Text) → bytes_eq name w ≡ false → bytes_eq w name ≡ false
other_way name w h = elim (cases_Bool (bytes_eq w name)) [
  | inr e ↦ e
  | inl e ↦ let q : w ≡ name = (bytes_eq-Decides w name).0 e in let no : bytes_eq name w ≡ true = (bytes_eq-Decides name w).1 (sym q) in absurd (let r : false ≡ true = sym h ∙ no in cc)
]

by_word : (w : Text) (rest : List Text) (name : Text) → (list_any is_flag rest ≡ false → Told (name ∷ rest)) → list_any is_flag rest ≡ false → bytes_eq name w ≡ true → Told (w ∷ rest)
by_word w rest name told plain h = subst (λ v. Told (v ∷ rest)) (sym (same_word name w h)) (told plain)

other_told : (w : Text) (rest : List Text) → is_flag w ≡ false → IsOther w → Told (w ∷ rest)
other_told w rest plain h =
    refused (w ∷ rest) kind.UnknownArgument (kind.InvalidSubcommand ∷ []) (other_fault w rest h plain)
    (alone_none w rest (other_way (codes "run") w h.run) (other_way (codes "replay") w h.replay) (other_way (codes "check") w h.check) (other_way (codes "make") w h.make) (other_way (codes "races") w h.races))

pub told : (ws : List Text) → list_any is_flag ws ≡ false → Told ws
told [] plain = none_at_all
told (w ∷ rest) plain =
    let p = or_parts (is_flag w) (list_any is_flag rest) plain in
    elim (cases_Bool (bytes_eq (codes "run") w)) [
      | inl e ↦ by_word w rest (codes "run") (run_told rest) p.1 e
      | inr run ↦ elim (cases_Bool (bytes_eq (codes "replay") w)) [
        | inl e ↦ by_word w rest (codes "replay") (replay_told rest) p.1 e
        | inr replay ↦ elim (cases_Bool (bytes_eq (codes "check") w)) [
          | inl e ↦ by_word w rest (codes "check") (check_told rest) p.1 e
          | inr check ↦ elim (cases_Bool (bytes_eq (codes "make") w)) [
            | inl e ↦ by_word w rest (codes "make") (make_told rest) p.1 e
            | inr make ↦ elim (cases_Bool (bytes_eq (codes "races") w)) [
              | inl e ↦ by_word w rest (codes "races") (races_told rest) p.1 e
              | inr races ↦ other_told w rest p.0 (record { run = run; replay = replay; check = check; make = make; races = races })
            ]
          ]
        ]
      ]
    ]

-- ---- the subcommand that `clap` found, by its name and its matches

pub found_is : {Z : Type 0} (o : Option (Box SubCommand Z)) (name : Text) (rows : List Row) → Some name ≡ option_map (λ b. (out-SubCommand (box_value b)).name.now) o → Some rows ≡ option_map (λ p. p.1) (subcommand_rows o) → subcommand_rows o ≡ Some (name, rows)
found_is None name rows h k = absurd cc
found_is (Some b) name rows h k = cc
