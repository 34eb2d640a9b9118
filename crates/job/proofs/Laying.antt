-- The symbols of a message, laid and lifted a byte at a time. Assumes nothing.
use Rattle.std.proofs.Common.{◌≡◌, ℕ, ◌+◌, ◌-◌, ◌*◌, ◌<◌, ◌≤◌, leb, List, [], ◌∷◌, ◌++◌, length, take, drop, replicate, sym, ap, ◌∙◌, suc-mul, add-mul, one-mul, zero-mul, arith}
use borrow.Rule.Slice.PartMut.{put_mid}
use Rattle.std.proofs.lemmas.Nat.{mul-le}
use Rattle.std.proofs.lemmas.List.{append_assoc, length-append, length-take-le, length-drop, take_at, drop_at, get_or-take, take_more, drop-replicate, flat_map_more}
use Rattle.std.specs.List.{flat_map}
use Rattle.checks.proofs.Lowest.{lowest_same}
use Rattle.checks.specs.Checks.{at, lowest, too_large}
use Rattle.job.specs.Packing.{digits, laid, slot}
use Rattle.job.proofs.Digits.{length_digits}

-- one byte more takes k symbols more
pub one_more : (i k : ℕ) → (i + 1) * k ≡ i * k + k
one_more i k = omega (arith, add-mul i 1 k, one-mul k)

-- the symbols of a byte of n lie within those of the n
pub slot_end : (i n k len : ℕ) → i < n → n * k ≤ len → i * k + k ≤ len
slot_end i n k len below fits = omega (arith, one_more i k, mul-le (i + 1) k n k (omega arith) (omega arith))

pub length_joined : (b k : ℕ) (xs : List ℕ) → length (flat_map (digits b k) xs) ≡ length xs * k
length_joined b k [] = sym (zero-mul k)
length_joined b k (x ∷ xs) =
    length-append (digits b k x) (flat_map (digits b k) xs)
    ∙ omega (arith, length_digits b k x, length_joined b k xs, suc-mul (length xs) k)

-- the part of a message that a byte fills
pub length-slot : (k : ℕ) (message : List ℕ) (i : ℕ) → i * k + k ≤ length message → length (slot k message i) ≡ k
length-slot k message i within = length-take-le k (drop (i * k) message) (omega (arith, length-drop (i * k) message))

-- the symbols of one byte more are laid
pub laid_more : (b k total : ℕ) (job message ys : List ℕ) (i : ℕ) → i < length job → length job * k ≤ total → length message ≡ total → message ≡ laid b k (take i job) total
    → ys ≡ digits b (length (take (i * k + k - i * k) (drop (i * k) message))) (at job i) → put_mid (i * k) (i * k + k - i * k) message ys ≡ laid b k (take (i + 1) job) total
laid_more b k total job message ys i within fits whole so is =
    let f = digits b k in
    let front = flat_map f (take i job) in
    let zeros : List ℕ = replicate (total - i * k) 0 in
    let here : length (take i job) ≡ i = length-take-le i job (omega arith) in
    let more : length (take (i + 1) job) ≡ i + 1 = length-take-le (i + 1) job (omega arith) in
    let long : length front ≡ i * k = rw here at (length_joined b k (take i job)) in
    let width : i * k + k - i * k ≡ k = omega arith in
    let fewer : total - i * k - k ≡ total - (i + 1) * k = omega (arith, one_more i k) in
    let filled : length (slot k message i) ≡ k = length-slot k message i (omega (arith, slot_end i (length job) k total within fits)) in
    let last : ys ≡ f (at job i) = rw (width, filled) at is in
    let both : flat_map f (take (i + 1) job) ≡ front ++ ys =
    ap (flat_map f) (take_more job i 0 within) ∙ sym (flat_map_more f [] (take i job) (at job i)) ∙ ap (λ zs. front ++ zs) (sym last) in
    rw (so, here, more, width, take_at front zeros (i * k) long, drop_at front zeros (i * k) long, drop-replicate {X = ℕ} k (total - i * k) 0, fewer, both)
    (sym (append_assoc front ys (replicate (total - (i + 1) * k) 0)))

-- the front of a message has the symbols of the message
pub large_front : (limit : ℕ) (message : List ℕ) (end : ℕ) → end ≤ length message
    → lowest (too_large limit (take end message)) (length (take end message)) ≡ lowest (too_large limit message) end
large_front limit message end within =
    ap (lowest (too_large limit (take end message))) (length-take-le end message within)
    ∙ lowest_same (too_large limit (take end message)) (too_large limit message) end (λ k below. ap (leb limit) (get_or-take end message k 0 below))
