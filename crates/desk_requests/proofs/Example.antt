-- Requests, on small cases.
use Rattle.std.proofs.Common.{◌≡◌, true, false, Some, refl, codes}
use Rattle.desk_requests.specs.Requests.{changes, label_of}
use Rattle.desk_requests.specs.declared.ask.Ask.TheVariants.{DropFile, Waivers}

a_file_that_is_dropped_changes_the_tables : changes (DropFile (codes "tx.v")) ≡ true
a_file_that_is_dropped_changes_the_tables = refl

a_list_does_not : changes Waivers ≡ false
a_list_does_not = refl

a_label : label_of (Some (codes "put-1")) ≡ codes "put-1"
a_label = refl
