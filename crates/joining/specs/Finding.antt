-- Where packets stand in bytes. Assumes nothing.
use Rattle.std.specs.Prelude.{ℕ, ◌+◌, Bool, not, ◌&&◌, List, length, take, drop, is_some, nat_le}
use Rattle.packet.specs.Bytes.{word}
use Rattle.packet.specs.Layout.{header_length, row_count_at}
use Rattle.packet.specs.Opening.{opening}

-- the length of a packet, as its header in front of bs tells
abbrev pub told_length : List ℕ → ℕ
told_length bs = header_length + word bs row_count_at

-- the bytes bs begin with a packet: they are as long as the header in front tells, and that much opens
abbrev pub begins : List ℕ → Bool
begins bs = nat_le (told_length bs) (length bs) && not (is_some (opening (take (told_length bs) bs)))

-- a packet stands at place i
abbrev pub stands_at : List ℕ → ℕ → Bool
stands_at bs i = begins (drop i bs)
