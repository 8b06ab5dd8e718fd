-- What stands in a buffer after a read behind its front.
use Rattle.std.proofs.Common.{◌≡◌, ◌≤◌, ◌+◌, ◌-◌, ℕ, List, [], ◌++◌, length, take, drop, Option, ◌∙◌, ap, sym, subst, arith, length-append}
use Rattle.std.proofs.Math.Seq.{take-append-add}
use Rattle.std.proofs.lemmas.List.{length-take-le, length-drop, take-append-le}
use borrow.Rule.Slice.PartMut.{post_of, put_mid}
use Rattle.desk_links.specs.Links.{GoesOn, Talk}
use Rattle.desk_server.proofs.Talks.{GoesOn-trans}

-- the front has grown by a front of what was read
front_grown : (buf read : List ℕ) (count more room : ℕ) → count ≤ length buf → more ≤ length read
    → take (count + more) (put_mid count room buf read) ≡ take count buf ++ take more read
front_grown buf read count more room within fits =
    let size : length (take count buf) ≡ count = length-take-le count buf within in
    ap (λ n. take (n + more) (put_mid count room buf read)) (sym size)
    ∙ take-append-add (take count buf) (read ++ post_of count room buf) more
    ∙ ap (λ l. take count buf ++ l) (take-append-le more read (post_of count room buf) fits)

-- what was heard is the front that has grown
pub heard_more : (a b c : Option Talk) (buf read : List ℕ) (count more room : ℕ) → count ≤ length buf
    → more ≤ length read → GoesOn a b (take count buf) [] → GoesOn b c (take more read) []
    → GoesOn a c (take (count + more) (put_mid count room buf read)) []
heard_more a b c buf read count more room within fits first next =
    subst (λ l. GoesOn a c l []) (sym (front_grown buf read count more room within fits))
    (GoesOn-trans a b c (take count buf) (take more read) [] [] first next)

-- nothing more was heard
pub heard_same : (a b c : Option Talk) (buf read : List ℕ) (count more room : ℕ) → count ≤ length buf
    → more ≤ length read → more ≡ 0 → GoesOn a b (take count buf) [] → GoesOn b c (take more read) []
    → GoesOn a c (take count (put_mid count room buf read)) []
heard_same a b c buf read count more room within fits none first next =
    let same : count + more ≡ count = omega (arith, none) in
    subst (λ n. GoesOn a c (take n (put_mid count room buf read)) []) same
    (heard_more a b c buf read count more room within fits first next)

-- a buffer keeps its length
pub same_length : (buf read : List ℕ) (count : ℕ) → count ≤ length buf
    → length read ≡ length buf - count
    → length (put_mid count (length buf - count) buf read) ≡ length buf
same_length buf read count within size =
    let first : length (take count buf) ≡ count = length-take-le count buf within in
    let behind : length (post_of count (length buf - count) buf) ≡ (length buf - count) - (length buf - count) =
    length-drop (length buf - count) (drop count buf) ∙ ap (λ n. n - (length buf - count)) (length-drop count buf) in
    let all : length (put_mid count (length buf - count) buf read) ≡ length (take count buf) + (length read + length (post_of count (length buf - count) buf)) =
    length-append (take count buf) (read ++ post_of count (length buf - count) buf)
    ∙ ap (λ n. length (take count buf) + n) (length-append read (post_of count (length buf - count) buf)) in
    omega (arith, first, behind, all, size, within)
