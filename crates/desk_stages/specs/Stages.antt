-- The text of a module of stages: each stores what the one before it holds and its own number more, at the rising edge of one
-- clock, and 0 under one reset (IEEE 1364-2001 section 9.7).
-- Worked examples: crates/desk_stages/proofs/Example.antt.
use Rattle.std.specs.Prelude.{ℕ, zero, suc, ◌-◌, List, [], ◌++◌, codes, decimal}

-- the lines before the stages
abbrev pub head_lines : List ℕ
head_lines =
    codes "module top(input clk, rst_n, input [31:0] d, output [31:0] q);\nwire [31:0] s0;\nassign s0 = d;\n"

-- a text with a number behind it
abbrev pub text_with_number : List ℕ → ℕ → List ℕ
text_with_number text number = text ++ decimal number

-- the register of a stage, and the block that writes it
abbrev pub stage_lines : ℕ → List ℕ
stage_lines stage =
    text_with_number (codes "reg [31:0] s") stage
    ++ text_with_number (codes ";\nalways @(posedge clk or negedge rst_n) if (!rst_n) s") stage
    ++ text_with_number (codes " <= 32'd0; else s") stage
    ++ text_with_number (codes " <= s") (stage - 1)
    ++ text_with_number (codes " + 32'd") stage ++ codes ";\n"

-- the stages up to a number
abbrev pub stages : ℕ → List ℕ
stages zero = []
stages (suc number) = stages number ++ stage_lines (suc number)

-- the module
abbrev pub stages_text : ℕ → List ℕ
stages_text count =
    head_lines ++ stages count ++ text_with_number (codes "assign q = s") count ++ codes ";\nendmodule\n"
