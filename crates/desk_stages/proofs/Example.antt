-- A stage, and a module of one.
use Rattle.std.proofs.Common.{◌≡◌, codes, refl}
use Rattle.std.specs.Fmt.{digits}
use Rattle.desk_stages.specs.Stages.{stage_lines, stages_text}

the_second_stage :
    stage_lines 2 ≡ codes "reg [31:0] s2;\nalways @(posedge clk or negedge rst_n) if (!rst_n) s2 <= 32'd0; else s2 <= s1 + 32'd2;\n"
unfolding digits
the_second_stage = refl

no_stage :
    stages_text 0 ≡ codes "module top(input clk, rst_n, input [31:0] d, output [31:0] q);\nwire [31:0] s0;\nassign s0 = d;\nassign q = s0;\nendmodule\n"
unfolding digits
no_stage = refl
