-- As many threads and callbacks as there are names of them.
use Rattle.std.proofs.Common.{◌≡◌, ℕ, zero, suc, ◌+◌, ◌<◌, Bool, true, false, cond, List, [], ◌∷◌, ◌++◌, length, map, take, filter, refl, sym, ap, ◌∙◌, arith, length-append}
use Rattle.std.specs.List.{flat_map}
use Rattle.std.proofs.Math.Seq.{take-length}
use Rattle.cx_scene.specs.declared.declared.Callback.{Callback}
use Rattle.cx_scene.specs.declared.declared.Thread.{Thread}
use Rattle.cx_script.specs.declared.declared.Declared.{Declared}
use Rattle.cx_script.specs.declared.declared.Declared.TheVariants as declared
use Rattle.cx_script.specs.Script.{Script, Declaration, is_callback, is_thread, name_at, names_in}
use Rattle.cx_script.specs.Numbered.{callbacks_made, threads_made, threads_from, object_step, numbered}

one_callback : (d : Declaration) (x : Declared) → d.what ≡ x → cond (is_callback d) 1 0 ≡ length (callbacks_made x)
one_callback d (declared.Callback stop action) e = rw e refl
one_callback d _ e = rw e refl

one_thread : (o : ℕ) (d : Declaration) (x : Declared) → d.what ≡ x → cond (is_thread d) 1 0 ≡ length (threads_made o x)
one_thread o d declared.Thread e = rw e refl
one_thread o d declared.JThread e = rw e refl
one_thread o d (declared.Async policy function) e = rw e refl
one_thread o d _ e = rw e refl

named : (b : Bool) (d : Declaration) (ds : List Declaration) → length (map (λ (x : Declaration). x.name) (cond b (d ∷ ds) ds)) ≡ cond b 1 0 + length (map (λ (x : Declaration). x.name) ds)
named true d ds = omega arith
named false d ds = omega arith

pub callbacks_count : (ds : List Declaration) → length (map (λ (d : Declaration). d.name) (filter is_callback ds)) ≡ length (flat_map (λ (d : Declaration). callbacks_made d.what) ds)
callbacks_count [] = refl
callbacks_count (d ∷ ds) =
    named (is_callback d) d (filter is_callback ds)
    ∙ ap (λ (n : ℕ). n + length (map (λ (x : Declaration). x.name) (filter is_callback ds))) (one_callback d d.what refl)
    ∙ ap (λ (n : ℕ). length (callbacks_made d.what) + n) (callbacks_count ds)
    ∙ sym (length-append (callbacks_made d.what) (flat_map (λ (x : Declaration). callbacks_made x.what) ds))

pub threads_count : (o : ℕ) (ds : List Declaration) → length (map (λ (d : Declaration). d.name) (filter is_thread ds)) ≡ length (threads_from o ds)
threads_count o [] = refl
threads_count o (d ∷ ds) =
    named (is_thread d) d (filter is_thread ds)
    ∙ ap (λ (n : ℕ). n + length (map (λ (x : Declaration). x.name) (filter is_thread ds))) (one_thread o d d.what refl)
    ∙ ap (λ (n : ℕ). length (threads_made o d.what) + n) (threads_count (o + object_step d.what) ds)
    ∙ sym (length-append (threads_made o d.what) (threads_from (o + object_step d.what) ds))

-- ---- names, one more

take_more : (xs : List (List ℕ)) (i : ℕ) → i < length xs → take (suc i) xs ≡ take i xs ++ name_at xs i ∷ []
take_more [] i h = absurd (omega arith)
take_more (x ∷ xs) zero h = refl
take_more (x ∷ xs) (suc i) h = ap (λ (t : List (List ℕ)). x ∷ t) (take_more xs i (omega arith))

pub one_name_more : (xs names more : List (List ℕ)) (i k : ℕ) (w : List ℕ) → names ≡ take i xs → k ≡ i → i < length xs → w ≡ name_at xs k → more ≡ names ++ w ∷ [] → more ≡ take (i + 1) xs
one_name_more xs names more i k w a b c d e =
    let one : suc i ≡ i + 1 = omega arith in
    e ∙ ap (λ (t : List (List ℕ)). t ++ w ∷ []) a ∙ ap (λ (t : List ℕ). take i xs ++ t ∷ []) (d ∙ ap (name_at xs) b) ∙ sym (take_more xs i c) ∙ ap (λ (n : ℕ). take n xs) one

pub all_callbacks : (s : Script) (cs : List Callback) (count : ℕ) → count ≡ length cs → cs ≡ (numbered s).callbacks → count ≡ length (names_in s).callbacks
all_callbacks s cs count a b = a ∙ ap (λ (x : List Callback). length x) b ∙ sym (callbacks_count s.declarations)

pub whole : (xs : List (List ℕ)) (n : ℕ) → n ≡ length xs → take n xs ≡ xs
whole xs n h = ap (λ (k : ℕ). take k xs) h ∙ take-length xs
