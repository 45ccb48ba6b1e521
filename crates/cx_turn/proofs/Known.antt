-- What is known of a view stays known of its parts.
use Rattle.std.proofs.Common.{◌≡◌, ℕ, ◌+◌, ◌-◌, ◌^◌, ◌<◌, ◌≤◌, [], ◌∷◌, Option, None, true, false, refl, append-nil, arith}
use Rattle.cx_machine.specs.declared.machine.Meaning.{Ghosts}
use Rattle.cx_turn.specs.declared.view.View.{View}
use Rattle.cx_turn.specs.Views.{IsKnown, Has, opening_view, outside, both_of, longer, less_share, given, having_met, split_left, split_right, note_left, note_right}
use Rattle.cx_turn.proofs.Ids.{times_less, times_only}

module _ {M : Type 0} (K : Ghosts M) where
  pub known_opening : (m : M) (seats calls : ℕ) → 1 ≤ seats → calls + K.debt m < 2 ^ 28 → K.pool m < 2 ^ 32 → IsKnown K (opening_view m seats calls (K.pool m))
  known_opening m seats calls some_seat few small = record {
    legal = (m, refl);
    own = λ c. refl;
    looks = tt;
    met = tt;
    gone = λ c. tt;
    above = λ c z n above. refl;
    seated = λ n le. refl;
    below = λ c. omega arith;
    few = λ c z. omega arith;
    present = ([], m, ([], refl), record { leads = refl; bounded = omega arith; share = omega arith; pool = small; held = λ id. omega arith });
  }

  -- a seat that has left the turn
  pub known_outside : (v : View M) → IsKnown K v → IsKnown K (outside v)
  known_outside v k = let p = k.present.3 in record {
    legal = k.legal;
    own = k.own;
    looks = k.looks;
    met = k.met;
    gone = k.gone;
    above = k.above;
    seated = k.seated;
    below = k.below;
    few = k.few;
    present = (k.present.0, k.present.1, k.present.2, record { leads = p.leads; bounded = p.bounded; share = p.share; pool = p.pool; held = p.held });
  }

  -- the first pass, once another was split off
  pub known_left : (v : View M) (calls : ℕ) → calls ≤ v.left → v.splits + 1 < v.seats → IsKnown K v → IsKnown K (split_left v calls)
  known_left v calls le room k = let p = k.present.3 in record {
    legal = k.legal;
    own = k.own;
    looks = k.looks;
    met = k.met;
    gone = k.gone;
    above = λ c z n more. k.above c z n (omega arith);
    seated = k.seated;
    below = k.below;
    few = λ c z. room;
    present = (k.present.0, k.present.1, k.present.2, record { leads = p.leads; bounded = (let b = p.bounded in omega arith); share = p.share; pool = p.pool; held = p.held });
  }

  -- the pass that was split off the first one
  pub known_right : (v : View M) (calls : ℕ) → v.counts ≡ true → v.number ≡ 0 → calls ≤ v.left → v.splits + 1 < v.seats → IsKnown K v → IsKnown K (split_right v calls)
  known_right v calls counts zeroth le room k = let p = k.present.3 in record {
    legal = k.legal;
    own = λ c. k.above counts zeroth (v.splits + 1) (omega arith);
    looks = tt;
    met = tt;
    gone = λ c. tt;
    above = λ c z n more. absurd (let e : v.splits + 1 ≡ 0 = z in omega arith);
    seated = k.seated;
    below = λ c. room;
    few = λ c z. absurd (let e : v.splits + 1 ≡ 0 = z in omega arith);
    present = (k.present.0, k.present.1, k.present.2, record { leads = p.leads; bounded = (let b = p.bounded in omega arith); share = omega arith; pool = p.pool; held = λ id. omega arith });
  }

  -- the seat that a note was split off
  pub known_rest : (v : View M) (calls share : ℕ) (id : Option ℕ) → Has v.holds id → IsKnown K v → IsKnown K (note_left v calls share id)
  known_rest v calls share id has k = let p = k.present.3 in record {
    legal = k.legal;
    own = k.own;
    looks = k.looks;
    met = k.met;
    gone = k.gone;
    above = k.above;
    seated = k.seated;
    below = k.below;
    few = k.few;
    present = (
      k.present.0,
      k.present.1,
      k.present.2,
      record { leads = p.leads; bounded = (let b = p.bounded in omega arith); share = (let b = p.share in omega arith); pool = p.pool; held = λ n. (let b = p.held n in let t = times_less n v.holds id has in omega arith) },
    );
  }

  -- the note
  pub known_note : (v : View M) (calls share : ℕ) (id : Option ℕ) → calls ≤ v.left → share ≤ v.share → Has v.holds id → IsKnown K v → IsKnown K (note_right v calls share id)
  known_note v calls share id some_left some_share has k = let p = k.present.3 in record {
    legal = k.legal;
    own = λ c. absurd (let g : false ≡ true = c in cc);
    looks = tt;
    met = tt;
    gone = λ c. tt;
    above = λ c z n more. absurd (let g : false ≡ true = c in cc);
    seated = k.seated;
    below = λ c. absurd (let g : false ≡ true = c in cc);
    few = λ c z. absurd (let g : false ≡ true = c in cc);
    present = (
      k.present.0,
      k.present.1,
      k.present.2,
      record { leads = p.leads; bounded = (let b = p.bounded in omega arith); share = (let b = p.share in omega arith); pool = p.pool; held = λ n. (let b = p.held n in let t = times_less n v.holds id has in let o = times_only n id in omega arith) },
    );
  }

module _ {M : Type 0} where
  -- a note without calls and ID takes a share alone
  pub less_is : (v : View M) (n : ℕ) → note_left v 0 n None ≡ less_share v n
  less_is v n = let e : v.left - 0 ≡ v.left = omega arith in λ i. record v { left = e i; share = v.share - n }

  -- and gives a share alone to who takes it in
  pub given_is : (w v : View M) (n : ℕ) → both_of w (note_right v 0 n None) ≡ given w v n
  given_is w v n = let e : w.left + 0 ≡ w.left = omega arith in λ i. record w { front = longer w.front v.front; left = e i; share = w.share + n; holds = append-nil w.holds i; met = w.front ∷ v.front ∷ [] }

  pub less_none : (v : View M) → less_share v 0 ≡ v
  less_none v = let e : v.share - 0 ≡ v.share = omega arith in λ i. record v { share = e i }

  pub given_none : (w v : View M) → given w v 0 ≡ having_met w v
  given_none w v = let e : w.share + 0 ≡ w.share = omega arith in λ i. record (having_met w v) { share = e i }
