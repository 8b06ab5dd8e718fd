-- How long the text is.
use Rattle.std.proofs.Common.{◌≡◌, ◌∙◌, ℕ, zero, suc, ◌+◌, ◌*◌, ◌-◌, ◌≤◌, List, ◌++◌, length, codes, decimal, length-append, append_assoc, arith, ap, sym}
use Rattle.std.proofs.lemmas.Fmt.{length-decimal-le}
use Rattle.desk_stages.specs.Stages.{stage_lines, stages, text_with_number}

-- a number up to 1000 has four digits at most
pub few_digits : (n : ℕ) → n ≤ 1000 → length (decimal n) ≤ 4
few_digits n small = length-decimal-le 4 n (omega arith) (omega (arith, small)) (omega (arith, small))

few_letters : (text : List ℕ) (n most : ℕ) → n ≤ 1000 → length text ≤ most → length (text_with_number text n) ≤ most + 4
few_letters text n most small few =
    let digits = few_digits n small in
    omega (arith, length-append text (decimal n), few, digits)

behind : (xs ys : List ℕ) (a b : ℕ) → length xs ≤ a → length ys ≤ b → length (xs ++ ys) ≤ a + b
behind xs ys a b one other = omega (arith, length-append xs ys, one, other)

pub short_stage : (n : ℕ) → n ≤ 1000 → length (stage_lines n) ≤ 200
short_stage n small =
    let less : n - 1 ≤ 1000 = omega (arith, small) in
    let name = text_with_number (codes "reg [31:0] s") n in
    let block = text_with_number (codes ";\nalways @(posedge clk or negedge rst_n) if (!rst_n) s") n in
    let zero_or = text_with_number (codes " <= 32'd0; else s") n in
    let former = text_with_number (codes " <= s") (n - 1) in
    let more = text_with_number (codes " + 32'd") n in
    let end = codes ";\n" in
    let one = behind name block 16 58 (few_letters (codes "reg [31:0] s") n 12 small (omega arith)) (few_letters (codes ";\nalways @(posedge clk or negedge rst_n) if (!rst_n) s") n 54 small (omega arith)) in
    let two = behind (name ++ block) zero_or 74 21 one (few_letters (codes " <= 32'd0; else s") n 17 small (omega arith)) in
    let three = behind (name ++ block ++ zero_or) former 95 9 two (few_letters (codes " <= s") (n - 1) 5 less (omega arith)) in
    let four = behind (name ++ block ++ zero_or ++ former) more 104 11 three (few_letters (codes " + 32'd") n 7 small (omega arith)) in
    let five = behind (name ++ block ++ zero_or ++ former ++ more) end 115 2 four (omega arith) in
    omega (arith, five)

-- one stage more
pub stage_behind : (out made : List ℕ) (n : ℕ) → n ≤ 1000 → made ≡ out ++ stage_lines n → length out ≤ 200 * n → length made ≤ 200 * (n + 1)
stage_behind out made n small is so_far =
    let lines = short_stage n small in
    omega (arith, ap length is, length-append out (stage_lines n), lines, so_far)

-- one stage more behind the stages up to one
pub stages_behind : (head out made : List ℕ) (n : ℕ) → 1 ≤ n → out ≡ head ++ stages (n - 1) → made ≡ out ++ stage_lines n → made ≡ head ++ stages (n + 1 - 1)
stages_behind head out made zero some so_far is = absurd (omega (arith, some))
stages_behind head out made (suc n) some so_far is =
    let before : suc n - 1 ≡ n = omega arith in
    let after : suc n + 1 - 1 ≡ suc n = omega arith in
    is ∙ (ap (λ it. it ++ stage_lines (suc n)) (so_far ∙ ap (λ m. head ++ stages m) before)
    ∙ (append_assoc head (stages n) (stage_lines (suc n)) ∙ ap (λ m. head ++ stages m) (sym after)))

-- the end
pub short_text : (out made whole : List ℕ) (n stage : ℕ) → n ≤ 1000 → stage ≤ 1001 → made ≡ out ++ text_with_number (codes "assign q = s") n → whole ≡ made ++ codes ";\nendmodule\n" → length out ≤ 200 * stage → length whole ≤ 1048576
short_text out made whole n stage small last is ends so_far =
    let line = few_letters (codes "assign q = s") n 12 small (omega arith) in
    let end : length (codes ";\nendmodule\n") ≤ 12 = omega arith in
    omega (arith, ap length is, ap length ends, length-append out (text_with_number (codes "assign q = s") n), length-append made (codes ";\nendmodule\n"), line, end, so_far, last)
