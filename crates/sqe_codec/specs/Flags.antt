-- The model: the flags of an entry, as they stand in io_uring.h, and the bits of a word.
use Rattle.std.specs.Prelude.{ℕ, zero, suc, ◌/◌, ◌%◌, ◌^◌, Bool, false, ◌||◌, ◌==◌}

-- Whether a word has the bit of a power of two.
abbrev pub has : ℕ → ℕ → Bool
has word bit = (word / bit) % 2 == 1

-- Whether a word is one of the lowest n bits.
abbrev pub is_bit_below : ℕ → ℕ → Bool
is_bit_below zero word = false
is_bit_below (suc n) word = word == 2 ^ n || is_bit_below n word

-- The entry's file is a registered one.
abbrev pub fixed_file : ℕ
fixed_file = 1

-- The entry starts when all earlier ones are done, and the later ones after it.
abbrev pub io_drain : ℕ
io_drain = 2

-- The next entry follows this one in its chain; a failure of this one breaks the chain, or doesn't.
abbrev pub io_link : ℕ
io_link = 4

abbrev pub io_hardlink : ℕ
io_hardlink = 8

-- The kernel chooses the buffer.
abbrev pub buffer_select : ℕ
buffer_select = 32

-- No completion is posted for a success.
abbrev pub skip_success : ℕ
skip_success = 64
