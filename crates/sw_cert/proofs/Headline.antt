-- The main theorem, of a declared network.
use Rattle.sw_machine.specs.Certificate.{Certificate, IsAccepted}
use Rattle.sw_machine.specs.DeadlockFreedom.{IsFree}
use Rattle.sw_machine.proofs.Free as machine
use Rattle.sw_config.specs.Entries.{Declaration}
use Rattle.sw_config.specs.Valid.{IsValid}
use Rattle.sw_machine.specs.Model.{network_of}
use Rattle.sw_machine.proofs.DeclaredNetworks.{are_networks}

pub is_free : (d : Declaration) (certificate : Certificate) → IsValid d → IsAccepted (network_of d) certificate → IsFree (network_of d) certificate
is_free d certificate valid accepted = machine.is_free (network_of d) certificate (are_networks d valid) accepted
