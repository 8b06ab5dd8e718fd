-- How many bits expressions and targets have by themselves (IEEE 1364-2001 section 4.4.1).
-- Worked examples: crates/tests_layers/stdin.
use Rattle.std.specs.Prelude.{ℕ, ◌+◌, ◌*◌, max, min, nat_le, ℤ, pos, ◌-ℤ◌, int_le, int_lt, unsigned_abs, ◌&&◌, if◌then◌else◌, Option, None, Some, Ok, Err}
use Rattle.rtl_const.specs.Constant.{Outcome}
use Rattle.elab_scope.specs.declared.known.Shape.{Shape}
use Rattle.elab_scope.specs.declared.widths.Breadth.{Breadth}
use Rattle.elab_scope.specs.declared.widths.Breadth.TheVariants.{Bits, Unfit, Hidden}
use Rattle.elab_scope.specs.declared.widths.Field.{Field}

-- the breadth of so many bits: 1 to 128 fit
abbrev pub fitted : ℕ → Breadth
fitted count = if nat_le 1 count && nat_le count 128 then Bits count else Unfit

-- what two breadths make: what is hidden hides it all, and what doesn't fit fits with nothing
abbrev pub both : Breadth → Breadth → (ℕ → ℕ → Breadth) → Breadth
both Hidden b of = Hidden
both Unfit Hidden of = Hidden
both (Bits m) Hidden of = Hidden
both Unfit Unfit of = Unfit
both Unfit (Bits n) of = Unfit
both (Bits m) Unfit of = Unfit
both (Bits m) (Bits n) of = of m n

-- operands that are sized with each other take the wider's width
abbrev pub wider : Breadth → Breadth → Breadth
wider a b = both a b (λ m n. Bits (max m n))

-- parts beside one another have their bits together
abbrev pub beside : Breadth → Breadth → Breadth
beside a b = both a b (λ m n. if nat_le (m + n) 128 then Bits (m + n) else Unfit)

-- a concatenation has a bit
abbrev pub fit : Breadth → Breadth
fit (Bits n) = fitted n
fit Unfit = Unfit
fit Hidden = Hidden

-- as many bits as so many copies have
abbrev pub copied : ℕ → Breadth → Breadth
copied times (Bits n) = fitted (times * n)
copied times Unfit = Unfit
copied times Hidden = Hidden

-- copies of a concatenation (section 4.1.14): without one there is nothing to go on with, and more than 128 don't fit
abbrev pub repeated : Outcome → Breadth → Breadth
repeated (Err fault) b = Hidden
repeated (Ok times) b =
    if int_le (pos 1) times
    then (if int_le times (pos 128) then copied (unsigned_abs times) b else Unfit) else Hidden

-- a width to go on with: where there is none that fits, the nearest or 1
abbrev pub bits : Breadth → ℕ
bits (Bits n) = min (max n 1) 128
bits Unfit = 1
bits Hidden = 1

-- the bits from `msb` to `lsb` of a signal, counted from its least significant, where it has them
abbrev pub field : Shape → ℤ → ℤ → Option Field
field shape msb lsb =
    if int_le (pos shape.low) lsb && int_le lsb msb && int_lt msb (pos (shape.low + shape.width))
    then Some (record { low = unsigned_abs (lsb -ℤ pos shape.low); width = unsigned_abs (msb -ℤ lsb) + 1 }) else None
