-- What is laid is lifted again, and what is lifted is laid again. Assumes nothing.
use Rattle.std.proofs.Common.{◌≡◌, ℕ, zero, suc, ◌+◌, ◌-◌, ◌*◌, ◌^◌, ◌<◌, ◌≤◌, List, [], ◌∷◌, ◌++◌, length, take, drop, replicate, sym, refl, ap, ◌∙◌, ap₂, suc-mul, zero-mul, add-one, arith, take-add}
use Rattle.std.proofs.lemmas.List.FromFn.{fill_by_all, length-map-range_with_len, map-range_with_len_more}
use Rattle.std.proofs.ByRecursion.{All-append, All-get_or, All-from_get_or}
use Rattle.std.proofs.lemmas.List.{append_assoc, length-append, length-drop, length-replicate, take_at, drop_at, drop-drop, take-append-drop, get_or-take, get_or-drop, get_or_append_left, get_or-append_right, flat_map_more}
use Rattle.std.proofs.lemmas.Grind.{common_steps}
use Rattle.std.specs.List.{flat_map, AllByRecursion}
use Rattle.std.specs.Int.Digits.{number_from_digits, AllBelowBase}
use Rattle.checks.proofs.Lowest.{same_places}
use Rattle.checks.specs.Checks.{at}
use Rattle.job.specs.Packing.{digits, laid, slot, lifted}
use Rattle.job.proofs.Digits.{length_digits, under_digits, number_digits, digits_number}
use Rattle.job.proofs.Laying.{slot_end, length-slot, length_joined}

at_zeros : (n i : ℕ) → at (replicate n 0) i ≡ 0
at_zeros n i = grind (arith, common_steps)

-- the k symbols of byte i are its digits
slot_joined : (b k : ℕ) (xs zs : List ℕ) (i : ℕ) → i < length xs → slot k (flat_map (digits b k) xs ++ zs) i ≡ digits b k (at xs i)
slot_joined b k [] zs i within = absurd (omega arith)
slot_joined b k (x ∷ xs) zs zero within =
    rw (zero-mul k, append_assoc (digits b k x) (flat_map (digits b k) xs) zs) (take_at (digits b k x) (flat_map (digits b k) xs ++ zs) k (length_digits b k x))
slot_joined b k (x ∷ xs) zs (suc i) within =
    let first = digits b k x in
    let others = flat_map (digits b k) xs ++ zs in
    let past : suc i * k ≡ k + i * k = omega (arith, suc-mul i k) in
    ap₂ (λ n ys. take k (drop n ys)) past (append_assoc first (flat_map (digits b k) xs) zs)
    ∙ ap (take k) (sym (drop-drop (i * k) k (first ++ others)))
    ∙ ap (λ ys. slot k ys i) (drop_at first others k (length_digits b k x))
    ∙ slot_joined b k xs zs i (omega arith)

pub under_joined : (b k : ℕ) (xs : List ℕ) → 0 < b → AllBelowBase b (flat_map (digits b k) xs)
under_joined b k [] pos = tt
under_joined b k (x ∷ xs) pos = All-append (λ d. d < b) (digits b k x) (flat_map (digits b k) xs) (under_digits b k x pos) (under_joined b k xs pos)

-- a message of total symbols
module _ (b k total : ℕ) (some : 0 < b) (whole : b ^ k ≡ 256) where
  -- a job that fits
  module _ (job : List ℕ) (fits : length job * k ≤ total) where
    pub length-laid : length (laid b k job total) ≡ total
    length-laid =
        length-append (flat_map (digits b k) job) (replicate (total - length job * k) 0)
        ∙ omega (arith, length_joined b k job, length-replicate {A = ℕ} (total - length job * k) 0)

    pub laid_small : (i : ℕ) → i < length job * k → at (laid b k job total) i < b
    laid_small i below =
        let long = length_joined b k job in
        rw (get_or_append_left (flat_map (digits b k) job) (replicate (total - length job * k) 0) 0 i (omega arith))
        (All-get_or (λ d. d < b) (flat_map (digits b k) job) i 0 (omega arith) (under_joined b k job some))

    pub laid-zero : (i : ℕ) → length job * k ≤ i → at (laid b k job total) i ≡ 0
    laid-zero i behind =
        get_or-append_right (flat_map (digits b k) job) (replicate (total - length job * k) 0) (length job * k) i 0 (length_joined b k job) behind
        ∙ at_zeros (total - length job * k) (i - length job * k)

    pub lifted-laid : AllByRecursion (λ v. v < 256) job → lifted b k (laid b k job total) (length job) ≡ job
    lifted-laid bytes =
        sym (fill_by_all (λ i. number_from_digits b (slot k (laid b k job total) i)) job (length job) 0 refl (λ i within.
        let small : at job i < b ^ k = rw whole (All-get_or (λ v. v < 256) job i 0 within bytes) in
        sym (ap (number_from_digits b) (slot_joined b k job (replicate (total - length job * k) 0) i within) ∙ number_digits b k (at job i) some small)))

  -- a message with small symbols in front and zeros behind them
  module _ (message : List ℕ) (n : ℕ) (long : length message ≡ total) (fits : n * k ≤ total) (small : (i : ℕ) → i < n * k → at message i < b) where
    within : (i : ℕ) → i < n → i * k + k ≤ length message
    within i below = slot_end i n k (length message) below (omega arith)

    under_slot : (i : ℕ) → i < n → AllBelowBase b (slot k message i)
    under_slot i below = All-from_get_or (λ d. d < b) (slot k message i) 0 (λ j h.
        let h' : j < k = rw (length-slot k message i (within i below)) at h in
        rw (get_or-take k (drop (i * k) message) j 0 h', get_or-drop (i * k) message j 0) (small (i * k + j) (omega (arith, slot_end i n k (n * k) below (omega arith)))))

    joined_lifted : (j : ℕ) → j ≤ n → flat_map (digits b k) (lifted b k message j) ≡ take (j * k) message
    joined_lifted zero le = rw (zero-mul k)
    joined_lifted (suc j) le =
        let f = digits b k in
        let v = number_from_digits b (slot k message j) in
        let more : lifted b k message (suc j) ≡ lifted b k message j ++ v ∷ [] = rw add-one at (map-range_with_len_more (λ i. number_from_digits b (slot k message i)) 0 j j (omega arith)) in
        let last : f v ≡ slot k message j = digits_number b k (slot k message j) (under_slot j (omega arith)) (length-slot k message j (within j (omega arith))) in
        let end : j * k + k ≡ suc j * k = omega (arith, suc-mul j k) in
        ap (flat_map f) more
        ∙ sym (flat_map_more f [] (lifted b k message j) v)
        ∙ ap₂ (λ xs ys. xs ++ ys) (joined_lifted j (omega arith)) last
        ∙ sym (take-add (j * k) k message)
        ∙ ap (λ c. take c message) end

    pub laid-lifted : ((i : ℕ) → n * k ≤ i → i < total → at message i ≡ 0) → laid b k (lifted b k message n) total ≡ message
    laid-lifted zeros =
        let count : length (lifted b k message n) ≡ n = length-map-range_with_len (λ i. number_from_digits b (slot k message i)) 0 n in
        let short = length-replicate {A = ℕ} (total - n * k) 0 in
        let rest : replicate (total - n * k) 0 ≡ drop (n * k) message =
        same_places (replicate (total - n * k) 0) (drop (n * k) message) (omega (arith, short, length-drop (n * k) message))
        (λ i h. at_zeros (total - n * k) i ∙ sym (get_or-drop (n * k) message i 0 ∙ zeros (n * k + i) (omega arith) (omega arith))) in
        rw (count, joined_lifted n (omega arith), rest) (take-append-drop (n * k) message)
