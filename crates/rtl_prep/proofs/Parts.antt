-- The two passes that need no text's lines: what they answer after their last token.
use Rattle.std.proofs.Common.{◌≡◌, ℕ, List, [], Option, Ok, Err, ap, ◌∙◌}
use Rattle.rtl_tree.specs.declared.token.Token.{Token}
use Rattle.text_ground.specs.declared.dropped.Dropped.{Dropped}
use Rattle.rtl_prep.specs.declared.initial.Within.TheVariants.{Outside}
use Rattle.rtl_prep.specs.Stops.{Stop, and_then, each}
use Rattle.rtl_prep.specs.Regions.{Cut, whole, cut, closed, regions}
use Rattle.rtl_prep.specs.Initials.{Shed, shed, open_at, ended, initials}

pub regions_err : (ts : List Token) (stop : Stop) → each cut whole ts ≡ Err stop → regions ts ≡ Err stop
unfolding regions
regions_err ts stop e = ap (λ o. and_then o (λ c. closed c.opened c)) e

pub regions_ok : (ts : List Token) (c : Cut) (o : Option ℕ) → each cut whole ts ≡ Ok c → c.opened ≡ o → regions ts ≡ closed o c
unfolding regions
regions_ok ts c o e h = ap (λ o. and_then o (λ c. closed c.opened c)) e ∙ ap (λ o. closed o c) h

pub initials_err : (text : List ℕ) (dropped : List Dropped) (ts : List Token) (stop : Stop)
    → each (shed text) (record { within = Outside; kept = []; dropped = dropped }) ts ≡ Err stop → initials text dropped ts ≡ Err stop
unfolding initials
initials_err text dropped ts stop e = ap (λ o. and_then o (λ s. ended (open_at s.within) s)) e

pub initials_ok : (text : List ℕ) (dropped : List Dropped) (ts : List Token) (s : Shed) (o : Option ℕ)
    → each (shed text) (record { within = Outside; kept = []; dropped = dropped }) ts ≡ Ok s → open_at s.within ≡ o → initials text dropped ts ≡ ended o s
unfolding initials
initials_ok text dropped ts s w e h = ap (λ o. and_then o (λ s. ended (open_at s.within) s)) e ∙ ap (λ w. ended w s) h
