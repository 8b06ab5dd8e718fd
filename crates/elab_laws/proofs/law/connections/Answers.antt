use Rattle.elab_laws.proofs.Assignments.{input_connection, output_connection, whole_read}
use Rattle.elab_laws.proofs.law.connections.Goals as goal

pub returns : goal.returns
returns c = record { reads = whole_read; inputs = input_connection; outputs = output_connection }
