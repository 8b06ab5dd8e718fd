-- The files of a command.
use Rattle.std.proofs.Common.{◌≡◌, ℕ, arith, List, [], ◌∷◌, Option, None, Some, Bool, true, false, cond, refl, subst}
use Rattle.std.specs.Prelude.{◌&&◌, bytes_eq, codes, nat_le}
use Rattle.std.proofs.lemmas.Bool.{and_parts}
use Rattle.std.proofs.lemmas.Bool.Decides.{nat_tests}
use Rattle.desk_numbers.specs.Numbers.{is_positive, number_of}
use Rattle.desk_top.specs.Commands.{IsWithin}
use Rattle.desk_top.specs.Words.{Order, Sign, Simulate, Replay, Vcd, Generate, ahead_order, are_files, generate_order, is_name, order, sign_order, vcd_order}

sign_has : (words : List (List ℕ)) (o : Order) → Some o ≡ sign_order words → IsWithin o
sign_has [] o is = absurd (cc)
sign_has (top ∷ files) o is = by_test (is_name top && are_files files) refl is
  where
    by_test : (b : Bool) → (is_name top && are_files files) ≡ b → Some o ≡ cond b (Some (Sign top files)) None → IsWithin o
    by_test true test is =
        let same : Sign top files ≡ o = cc in
        subst IsWithin same (and_parts (is_name top) (are_files files) test).1
    by_test false test is = absurd (cc)

ahead_has : (made : List ℕ → List ℕ → List (List ℕ) → Order) (words : List (List ℕ)) (o : Order) → ((top ahead : List ℕ) (files : List (List ℕ)) → are_files files ≡ true → IsWithin (made top ahead files)) → Some o ≡ ahead_order made words → IsWithin o
ahead_has made [] o has is = absurd (cc)
ahead_has made (top ∷ []) o has is = absurd (cc)
ahead_has made (top ∷ ahead ∷ files) o has is = by_test (is_name top && (is_name ahead && are_files files)) refl is
  where
    by_test : (b : Bool) → (is_name top && (is_name ahead && are_files files)) ≡ b → Some o ≡ cond b (Some (made top ahead files)) None → IsWithin o
    by_test true test is =
        let same : made top ahead files ≡ o = cc in
        subst IsWithin same (has top ahead files (and_parts (is_name ahead) (are_files files) (and_parts (is_name top) (is_name ahead && are_files files) test).1).1)
    by_test false test is = absurd (cc)

vcd_has : (words : List (List ℕ)) (o : Order) → Some o ≡ vcd_order words → IsWithin o
vcd_has [] o is = absurd (cc)
vcd_has (top ∷ []) o is = absurd (cc)
vcd_has (top ∷ scope ∷ []) o is = absurd (cc)
vcd_has (top ∷ scope ∷ dump ∷ files) o is = by_test (is_name top && (is_name scope && (is_name dump && are_files files))) refl is
  where
    by_test : (b : Bool) → (is_name top && (is_name scope && (is_name dump && are_files files))) ≡ b → Some o ≡ cond b (Some (Vcd top scope dump files)) None → IsWithin o
    by_test true test is =
        let same : Vcd top scope dump files ≡ o = cc in
        let behind = (and_parts (is_name top) (is_name scope && (is_name dump && are_files files)) test).1 in
        let beyond = (and_parts (is_name scope) (is_name dump && are_files files) behind).1 in
        subst IsWithin same (and_parts (is_name dump) (are_files files) beyond).1
    by_test false test is = absurd (cc)

generate_has : (words : List (List ℕ)) (o : Order) → Some o ≡ generate_order words → IsWithin o
generate_has [] o is = absurd (cc)
generate_has (word ∷ more ∷ others) o is = absurd (cc)
generate_has (word ∷ []) o is = by_test (is_positive word && nat_le (number_of word) 1000) refl is
  where
    by_test : (b : Bool) → (is_positive word && nat_le (number_of word) 1000) ≡ b → Some o ≡ cond b (Some (Generate (number_of word))) None → IsWithin o
    by_test true test is =
        let same : Generate (number_of word) ≡ o = cc in
        let few = (and_parts (is_positive word) (nat_le (number_of word) 1000) test).1 in
        subst IsWithin same (grind (arith, nat_tests, few))
    by_test false test is = absurd (cc)

-- what words are behind the name of a command that isn't one of the first three
abbrev behind_replay : List ℕ → List (List ℕ) → Option Order
behind_replay name rest =
    cond (bytes_eq name (codes "vcd")) (vcd_order rest) (cond (bytes_eq name (codes "generate")) (generate_order rest) None)

-- a command that words are has a list of files, or not too many stages
pub within : (words : List (List ℕ)) (o : Order) → Some o ≡ order words → IsWithin o
within [] o is = absurd (cc)
within (name ∷ rest) o is = by_sign (bytes_eq name (codes "sign")) is
  where
    by_generate : (b : Bool) → Some o ≡ cond b (generate_order rest) None → IsWithin o
    by_generate true is = generate_has rest o is
    by_generate false is = absurd (cc)

    by_vcd : (b : Bool) → Some o ≡ cond b (vcd_order rest) (cond (bytes_eq name (codes "generate")) (generate_order rest) None) → IsWithin o
    by_vcd true is = vcd_has rest o is
    by_vcd false is = by_generate (bytes_eq name (codes "generate")) is

    by_replay : (b : Bool) → Some o ≡ cond b (ahead_order Replay rest) (behind_replay name rest) → IsWithin o
    by_replay true is = ahead_has Replay rest o (λ top demo files are. are) is
    by_replay false is = by_vcd (bytes_eq name (codes "vcd")) is

    by_simulate : (b : Bool) → Some o ≡ cond b (ahead_order Simulate rest) (cond (bytes_eq name (codes "replay")) (ahead_order Replay rest) (behind_replay name rest)) → IsWithin o
    by_simulate true is = ahead_has Simulate rest o (λ top steps files are. are) is
    by_simulate false is = by_replay (bytes_eq name (codes "replay")) is

    by_sign : (b : Bool) → Some o ≡ cond b (sign_order rest) (cond (bytes_eq name (codes "simulate")) (ahead_order Simulate rest) (cond (bytes_eq name (codes "replay")) (ahead_order Replay rest) (behind_replay name rest))) → IsWithin o
    by_sign true is = sign_has rest o is
    by_sign false is = by_simulate (bytes_eq name (codes "simulate")) is
