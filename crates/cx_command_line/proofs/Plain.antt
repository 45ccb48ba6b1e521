-- What `clap` makes of words that are no flags.
use Rattle.std.proofs.Common.{◌≡◌, ℕ, false, List, [], ◌∷◌, ◌++◌, Some, None, refl, sym, ap, ◌∙◌, append-nil, append_assoc}
use Rattle.std.specs.Prelude.{fold}
use Rattle.std.specs.Str.{bytes_eq}
use Rattle.clap.specs.Lexer.{strip_byte, long_of, short_of}
use Rattle.clap.specs.Walk.{Held, Names, Rule, Text, Walk, arg_by_index, idle, to_positional, value, walked, word_met}
use Rattle.clap.specs.Faults.{step_fault, turn_fault, walk_fault}
use Rattle.clap.specs.Simple.{Shape}
use Rattle.cx_command_line.specs.Forms.{is_flag}

-- ---- a word that is no flag

abbrev dashes : Text
dashes = 45 ∷ 45 ∷ []

no_hyphen : (x : Text) → is_flag x ≡ false → strip_byte 45 x ≡ None
no_hyphen [] h = refl
no_hyphen (b ∷ bs) h = rw h refl

pub no_dashes : (x : Text) → is_flag x ≡ false → bytes_eq x dashes ≡ false
no_dashes [] h = refl
no_dashes (b ∷ bs) h = rw h refl

pub no_long : (x : Text) → is_flag x ≡ false → long_of x ≡ None
no_long x h = rw (no_hyphen x h) refl

pub no_short : (x : Text) → is_flag x ≡ false → short_of x ≡ None
no_short x h = rw (no_hyphen x h) refl

-- a walk that waits for nothing and has met no subcommand
abbrev pub going : ℕ → Held → Walk
going position h = record { held = h; waiting = idle; position = position; is_trailing = false; stopped = None }

is_value : (c : List Rule) (position : ℕ) (x : Text) (h : Held) → is_flag x ≡ false → word_met c [] false idle position x h ≡ (h, value)
is_value c position x h plain = rw (no_dashes x plain, no_long x plain, no_short x plain) refl

-- below a subcommand the word goes to the next positional
pub to_next : (c : List Rule) (position : ℕ) (x : Text) (h : Held) → is_flag x ≡ false → walked c [] (going position h) x ≡ to_positional c (arg_by_index c position) x (going position h) h
unfolding walked
to_next c position x h plain = rw (is_value c position x h plain) refl

pub fails_at : (s : Shape) (position : ℕ) (x : Text) (h : Held) → is_flag x ≡ false → turn_fault s [] (going position h) x ≡ step_fault s position h value
fails_at s position x h plain = rw (is_value s.rules position x h plain, no_dashes x plain, no_long x plain, no_short x plain) refl

-- ---- a walk that has met a subcommand

abbrev pub stopped_at : Held → Text → List Text → Walk
stopped_at h name words = record { held = h; waiting = idle; position = 1; is_trailing = false; stopped = Some (name, words) }

pub collects : (c : List Rule) (names : Names) (h : Held) (name : Text) (words rest : List Text) → fold (walked c names) (stopped_at h name words) rest ≡ stopped_at h name (words ++ rest)
unfolding walked
collects c names h name words [] = ap (stopped_at h name) (sym (append-nil words))
collects c names h name words (x ∷ rest) = collects c names h name (words ++ x ∷ []) rest ∙ ap (stopped_at h name) (append_assoc words (x ∷ []) rest)

pub no_fault_behind : (s : Shape) (names : Names) (h : Held) (name : Text) (words rest : List Text) → walk_fault s names (stopped_at h name words) rest ≡ []
unfolding walk_fault walked
no_fault_behind s names h name words [] = refl
no_fault_behind s names h name words (x ∷ rest) = no_fault_behind s names h name (words ++ x ∷ []) rest
