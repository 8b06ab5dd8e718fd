-- The names that tools define before they read a text: none of them is the standard's (IEEE 1364-2001 section 19.4).
-- Worked examples: crates/check_conditions/proofs/Example.antt, crates/tests_rows/stdin.
use Rattle.std.specs.Prelude.{ℕ, ◌||◌, Bool, List, [], ◌∷◌, codes, nat_eq}
use Rattle.std.specs.List.{list_any, starts_with}
use Rattle.std.specs.Str.{bytes_eq}

-- those that Icarus Verilog, Yosys and Verilator were seen to define
abbrev pub seen_names : List (List ℕ)
seen_names =
    codes "__ICARUS__" ∷ codes "__VAMS_ENABLE__" ∷ codes "YOSYS" ∷ codes "VERILATOR" ∷ codes "verilator"
    ∷ codes "verilator3" ∷ codes "coverage_block_off" ∷ codes "SYSTEMVERILOG" ∷ []

-- those that other simulators define by their handbooks
abbrev pub simulator_names : List (List ℕ)
simulator_names =
    codes "MODEL_TECH" ∷ codes "QUESTA" ∷ codes "VCS" ∷ codes "INCA" ∷ codes "NCVERILOG" ∷ codes "XCELIUM"
    ∷ codes "_VCP" ∷ codes "XILINX_ISIM" ∷ codes "XILINX_SIMULATOR" ∷ []

-- those that other synthesis tools define by their handbooks
abbrev pub synthesis_names : List (List ℕ)
synthesis_names =
    codes "__XST__" ∷ codes "ALTERA_RESERVED_QIS" ∷ codes "DC" ∷ codes "SYNPLIFY" ∷ []

-- whether a name is one of those, or begins as those do by which a simulator counts coverage
abbrev pub is_tool_name : List ℕ → Bool
is_tool_name name =
    list_any (bytes_eq name) seen_names || list_any (bytes_eq name) simulator_names
    || list_any (bytes_eq name) synthesis_names || starts_with nat_eq name (codes "SV_COV_")
