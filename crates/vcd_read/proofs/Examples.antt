-- Dumps, on small cases.
use Rattle.std.proofs.Common.{◌≡◌, ℕ, List, [], ◌∷◌, ◌++◌, codes, refl, Result, Ok, Err}
use Rattle.rtl_bits.specs.declared.Bit.{Bit}
use Rattle.rtl_bits.specs.declared.Bit.TheVariants.{Zero, One, X, Z}
use Rattle.vcd_read.specs.declared.fault.VcdFault.{VcdFault}
use Rattle.vcd_read.specs.declared.fault.VcdFault.TheVariants.{Malformed}
use Rattle.vcd_read.specs.Filling.{filled}
use Rattle.vcd_read.specs.Frames.{Values, Variable, frames, variables}
use Rattle.vcd_read.specs.Keywords.{keyword_of, rare_keyword}
use Rattle.vcd_read.specs.Numbers.{number_of}
use Rattle.vcd_read.specs.Reading.{Dump, read}
use Rattle.vcd_read.specs.Words.{words}
use Rattle.std.specs.Prelude.{None, Some}

-- the frames of a text
abbrev frames_of : Result Dump VcdFault → List Values
frames_of (Ok dump) = frames dump
frames_of (Err fault) = []

abbrev variables_of : Result Dump VcdFault → List Variable
variables_of (Ok dump) = variables dump
variables_of (Err fault) = []

-- a line, with its line feed
abbrev line : List ℕ → List ℕ → List ℕ
line text behind = text ++ 10 ∷ behind

-- one scope in another, three variables, and four times
abbrev small : List ℕ
small =
    line (codes "$timescale 1ns $end") (line (codes "$scope module tb $end") (line (codes "$scope module dut $end")
    (line (codes "$var wire 1 ! clk $end") (line (codes "$var wire 1 \" d $end") (line (codes "$var reg 1 # q $end")
    (line (codes "$upscope $end") (line (codes "$upscope $end") (line (codes "$enddefinitions $end")
    (line (codes "#0 0! 1\" x#") (line (codes "#5 1! 1#") (line (codes "#10 0!") (line (codes "#15 1! 0\"") []))))))))))))

its_variables : variables_of (read small) ≡ record { path = codes "tb.dut.clk"; width = 1; code = 1 } ∷ record { path = codes "tb.dut.d"; width = 1; code = 2 } ∷ record { path = codes "tb.dut.q"; width = 1; code = 3 } ∷ []
unfolding keyword_of rare_keyword
its_variables = refl

abbrev at_time : ℕ → Bit → Bit → Bit → Values
at_time time clk d q = record { time = time; values = (clk ∷ []) ∷ (d ∷ []) ∷ (q ∷ []) ∷ [] }

its_frames : frames_of (read small) ≡ at_time 0 Zero One X ∷ at_time 5 One One One ∷ at_time 10 Zero One One ∷ at_time 15 One Zero One ∷ []
unfolding keyword_of rare_keyword
its_frames = refl

-- a text with one variable of four bits
abbrev declared : List ℕ → List ℕ
declared behind = line (codes "$var reg 4 ! q[3:0] $end") (line (codes "$enddefinitions $end") behind)

-- vectors that are short
with_x : frames_of (read (declared (codes "#1 bx0 !"))) ≡ record { time = 1; values = (Zero ∷ X ∷ X ∷ X ∷ []) ∷ [] } ∷ []
unfolding keyword_of rare_keyword
with_x = refl

with_z : filled 4 (Z ∷ []) ≡ Some (Z ∷ Z ∷ Z ∷ Z ∷ [])
with_z = refl

with_zero : filled 4 (One ∷ X ∷ []) ≡ Some (X ∷ One ∷ Zero ∷ Zero ∷ [])
with_zero = refl

-- what stands before the first time is so before the first frame, and equal times are one
one_frame : frames_of (read (declared (codes "$dumpvars b10 ! $end #7 #7 b1111 !"))) ≡ record { time = 7; values = (One ∷ One ∷ One ∷ One ∷ []) ∷ [] } ∷ []
unfolding keyword_of rare_keyword
one_frame = refl

before_all : frames_of (read (declared (codes "b10 ! #7 $comment #3 $end"))) ≡ record { time = 7; values = (Zero ∷ One ∷ Zero ∷ Zero ∷ []) ∷ [] } ∷ []
unfolding keyword_of rare_keyword
before_all = refl

-- places of what is malformed
abbrev short : List ℕ → List ℕ
short behind = codes "$var reg 4 ! q $end $enddefinitions $end " ++ behind

unknown_code : read (short (codes "#1 1?")) ≡ Err (Malformed 44)
unfolding keyword_of rare_keyword
unknown_code = refl

falling : read (short (codes "#2 #1")) ≡ Err (Malformed 44)
unfolding keyword_of rare_keyword
falling = refl

too_many_bits : read (short (codes "b00001 !")) ≡ Err (Malformed 41)
unfolding keyword_of rare_keyword
too_many_bits = refl

a_lone_upscope : read (codes " $upscope $end") ≡ Err (Malformed 1)
unfolding keyword_of rare_keyword
a_lone_upscope = refl

no_end : read (codes "$var reg 4 ! q $end") ≡ Err (Malformed 19)
unfolding keyword_of rare_keyword
no_end = refl

no_width : read (codes "$var reg 0 ! q $end") ≡ Err (Malformed 9)
unfolding keyword_of rare_keyword
no_width = refl

-- real and wide variables are skipped, and their codes are known
skipped : frames_of (read (codes "$var real 64 r x $end $var wire 200 w y $end $enddefinitions $end #0 r1.5 r b101 w")) ≡ record { time = 0; values = [] } ∷ []
unfolding keyword_of rare_keyword
skipped = refl

no_real : read (codes "$enddefinitions $end r w") ≡ Err (Malformed 21)
unfolding keyword_of rare_keyword
no_real = refl

-- numbers, and words with their places
a_number : number_of (codes "18446744073709551615") ≡ Some 18446744073709551615
a_number = refl

beyond : number_of (codes "18446744073709551616") ≡ None
beyond = refl

two_words : words 3 (codes " ab  c") ≡ record { at = 4; text = codes "ab" } ∷ record { at = 8; text = codes "c" } ∷ []
two_words = refl
