-- What a packet more does to the state that a receiver's fields hold. Assumes nothing.
use Rattle.std.proofs.Common.{◌≡◌, ℕ, ◌+◌, ◌*◌, ◌<◌, ◌≤◌, min, Bool, true, false, leb, List, [], ◌∷◌, ◌++◌, map, length, take, drop, set, sym, refl, ap, ◌∙◌, ap₂, inl, inr, arith}
use Rattle.std.specs.List.{range_with_len}
use Rattle.std.proofs.lemmas.List.FromFn.{length-map-range_with_len, get_or-map-range_with_len, map-range_with_len_more, fill_by_all}
use Rattle.std.proofs.lemmas.List.{get_or-set_same, get_or-set_other, drop-take, take-take, take_at, drop_at, take_more_set, drop-append-le, drop_all, length-take, length-take-le, length-drop, length-append, length_push}
use Rattle.std.proofs.lemmas.Bool.{cases_lt, le-leb, lt-leb}
use Rattle.code.specs.Plans.{PlanView, Sound}
use Rattle.code.specs.Rows.{Packet}
use Rattle.code.proofs.Rows.{row_within}
use Rattle.receiver.specs.Machine.{State, count, settled, keeping}
use Rattle.receiver.specs.Receivers.{packet_at, state}
use Rattle.receiver.specs.Shelves.{row_on, with_row}
use Rattle.receiver.specs.States.{Reached}

-- the same packet at each place
pub same_map : (f g : ℕ → Packet) (n : ℕ) → ((t : ℕ) → t < n → g t ≡ f t) → map g (range_with_len 0 n) ≡ map f (range_with_len 0 n)
same_map f g n same = fill_by_all f (map g (range_with_len 0 n)) n (f 0) (length-map-range_with_len g 0 n)
    (λ k h. get_or-map-range_with_len g 0 n k k (f 0) h (omega arith) ∙ same k h)

pub packet_is : (n k : ℕ) (xs ys : List ℕ) → n ≡ k → xs ≡ ys → ◌≡◌ {A = Packet} (record { number = n; row = xs }) (record { number = k; row = ys })
packet_is n k xs ys e f = λ i. record { number = e i; row = f i }

-- a row in front depends on what is in front
pub row-part : (n len t : ℕ) → t < n → (xs : List ℕ) → row_on xs t len ≡ drop (t * len) (take (t * len + len) (take (n * len) xs))
row-part n len t h xs = sym (drop-take (t * len) len xs) ∙ ap (drop (t * len)) (sym (take-take (t * len + len) (n * len) xs (row_within t n len h)))

pub row_same : (n len t : ℕ) → t < n → (xs ys : List ℕ) → take (n * len) xs ≡ take (n * len) ys → row_on xs t len ≡ row_on ys t len
row_same n len t h xs ys same = row-part n len t h xs ∙ ap (λ zs. drop (t * len) (take (t * len + len) zs)) same ∙ sym (row-part n len t h ys)

-- there is room for an accepted packet
pub keep_room : (p : PlanView) → Sound p → (s : State) (k : Packet) (n : ℕ) → count s ≡ n → Reached p (keeping p s k) → n < 128
keep_room p sound s k n is reached = omega (arith, more (settled p s) refl, reached.room, sound.m_most, sound.r_most)
  where
    more : (b : Bool) → settled p s ≡ b → count (keeping p s k) ≡ count s + 1
    more true e = rw e (omega (arith, length_push s.later k.number))
    more false e = rw e (omega (arith, length_push s.stored k))

module _ (p : PlanView) (n : ℕ) (numbers shelf : List ℕ) where
  pub settled-state : p.m ≤ n → settled p (state p.m p.L n numbers shelf) ≡ true
  unfolding state
  settled-state l = le-leb _ _ (omega (arith, length-map-range_with_len (packet_at p.L numbers shelf) 0 (min n p.m)))

  pub unsettled_state : n < p.m → settled p (state p.m p.L n numbers shelf) ≡ false
  unfolding state
  unsettled_state l = lt-leb _ _ (omega (arith, length-map-range_with_len (packet_at p.L numbers shelf) 0 (min n p.m)))

  pub settled_by : leb p.m n ≡ settled p (state p.m p.L n numbers shelf)
  settled_by = elim (cases_lt n p.m) [
    | inl less ↦ lt-leb p.m n less ∙ sym (unsettled_state less)
    | inr full ↦ le-leb p.m n full ∙ sym (settled-state full)
  ]

  module _ (k : ℕ) (row : List ℕ) (h : n < length numbers) where
    -- one more when m are stored: its number alone
    pub kept_late : p.m ≤ n → state p.m p.L (n + 1) (set numbers n k) shelf
        ≡ keeping p (state p.m p.L n numbers shelf) (record { number = k; row = row })
    unfolding state
    kept_late l = rw (settled-state l) (
        let a : min (n + 1) p.m ≡ p.m = omega arith in
        let b : min n p.m ≡ p.m = omega arith in
        let stored : map (packet_at p.L (set numbers n k) shelf) (range_with_len 0 (min (n + 1) p.m)) ≡ map (packet_at p.L numbers shelf) (range_with_len 0 (min n p.m)) =
        ap (λ c. map (packet_at p.L (set numbers n k) shelf) (range_with_len 0 c)) a
        ∙ same_map _ _ p.m (λ t x. packet_is _ _ _ _ (get_or-set_other numbers n t k 0 (omega arith)) refl)
        ∙ sym (ap (λ c. map (packet_at p.L numbers shelf) (range_with_len 0 c)) b) in
        let later : drop p.m (take (n + 1) (set numbers n k)) ≡ drop p.m (take n numbers) ++ k ∷ [] =
        ap (drop p.m) (take_more_set numbers n k h) ∙ drop-append-le p.m (take n numbers) (k ∷ []) (omega (arith, length-take n numbers)) in
        cc (stored, later))

    -- one more before: with its row
    pub kept-early : n < p.m → (after : List ℕ) → take (n * p.L) after ≡ take (n * p.L) shelf → row_on after n p.L ≡ row
        → state p.m p.L (n + 1) (set numbers n k) after
        ≡ keeping p (state p.m p.L n numbers shelf) (record { number = k; row = row })
    unfolding state
    kept-early l after below here = rw (unsettled_state l) (
        let a : min (n + 1) p.m ≡ n + 1 = omega arith in
        let b : min n p.m ≡ n = omega arith in
        let stored : map (packet_at p.L (set numbers n k) after) (range_with_len 0 (min (n + 1) p.m))
        ≡ map (packet_at p.L numbers shelf) (range_with_len 0 (min n p.m)) ++ record { number = k; row = row } ∷ [] =
        ap (λ c. map (packet_at p.L (set numbers n k) after) (range_with_len 0 c)) a
        ∙ map-range_with_len_more (packet_at p.L (set numbers n k) after) 0 n n (omega arith)
        ∙ ap₂ (λ xs x. xs ++ x ∷ [])
        (same_map (packet_at p.L numbers shelf) _ n (λ t x. packet_is _ _ _ _ (get_or-set_other numbers n t k 0 (omega arith))
        (row_same n p.L t x after shelf below))
        ∙ sym (ap (λ c. map (packet_at p.L numbers shelf) (range_with_len 0 c)) b))
        (packet_is _ _ _ _ (get_or-set_same numbers n k 0 h) here) in
        let later : drop p.m (take (n + 1) (set numbers n k)) ≡ drop p.m (take n numbers) =
        drop_all p.m (take (n + 1) (set numbers n k)) (omega (arith, length-take (n + 1) (set numbers n k)))
        ∙ sym (drop_all p.m (take n numbers) (omega (arith, length-take n numbers))) in
        cc (stored, later))

-- a row written to the shelf
module _ (n len : ℕ) (xs row : List ℕ) (long : length row ≡ len) (room : n * len + len ≤ length xs) where
  front : length (take (n * length row) xs) ≡ n * len
  front = rw long (length-take-le (n * len) xs (omega arith))

  pub row_below : take (n * len) (with_row xs n row) ≡ take (n * len) xs
  row_below = take_at (take (n * length row) xs) _ (n * len) front ∙ ap (λ w. take (n * w) xs) long

  pub row_here : row_on (with_row xs n row) n len ≡ row
  row_here = ap (take len) (drop_at (take (n * length row) xs) _ (n * len) front) ∙ take_at row _ len long

  pub length-with_row : length (with_row xs n row) ≡ length xs
  length-with_row =
      length-append (take (n * length row) xs) _
      ∙ omega (arith, front, length-append row (drop (n * length row + length row) xs), length-drop (n * length row + length row) xs, ap (λ w. n * w) long)
