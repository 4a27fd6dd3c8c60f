-- What a file and the file that it is migrated to have in common.
use Rattle.std.specs.Prelude.{◌≡◌, ◌⊎◌, ℕ, false, List, map, Result, Ok, Err, Vec}
use Rattle.std.specs.declared.alloc.Global.{Global}
use Rattle.toml.specs.Data.{Members}
use Rattle.toml.specs.Text.{IsDocumentText}
use Rattle.sw_config.specs.Entries.{Declaration, look_at}
use Rattle.sw_text.specs.declared.keys.Version.{Version}
use Rattle.sw_text.specs.declared.keys.Version.TheVariants.{One, Two, Three}
use Rattle.sw_text.specs.declared.fault.OrMemory.{OrMemory}
use Rattle.sw_text.specs.declared.fault.OrMemory.TheVariants.{Fault, Memory}
use Rattle.sw_text.specs.Document.{document_of}
use Rattle.sw_file.specs.Network.{version_of, network_of, network_text}
use Rattle.sw_file.specs.declared.fault.MigrateFault.{MigrateFault}
use Rattle.sw_file.specs.declared.fault.MigrateFault.TheVariants.{Text, NotOld}
use Rattle.sw_file.specs.Tree.{migrated}

-- The same network: nodes with their targets, links with their capacities, and flows are equal, and the switches are as many, of the same
-- names and policies, and each byte names the same at each of them. Only the entries of their routing tables may be others.
pub record IsSameNetwork (old new : Declaration) : Type 0 where
  pub nodes : new.nodes ≡ old.nodes
  pub links : new.links ≡ old.links
  pub flows : new.flows ≡ old.flows
  pub names : map (λ s. s.name) new.switches ≡ map (λ s. s.name) old.switches
  pub policies : map (λ s. s.arbitration) new.switches ≡ map (λ s. s.arbitration) old.switches
  pub looks : (s byte : ℕ) → look_at new.switches s byte ≡ look_at old.switches s byte

-- the tree of a file of that version, and the network that it declares
pub record DeclaresAs (version : Version) (tree : Members) : Type 0 where
  pub network : Declaration
  pub versioned : version_of tree ≡ Ok version
  pub declared : network_of tree ≡ Ok network

-- The text is that of a network of version 1. The new text is a document, as the kit's printer writes one, of its tree migrated: it is of
-- version 2, and declares the same network.
pub record IsMigration (bytes text : List ℕ) : Type 0 where
  pub tree : Members
  pub new_tree : Members
  pub is_document : document_of bytes ≡ Ok tree
  pub old : DeclaresAs One tree
  pub is_migrated : migrated tree ≡ Ok new_tree
  pub is_written : IsDocumentText false new_tree text
  pub reads_back : document_of text ≡ Ok new_tree
  pub new : DeclaresAs Two new_tree
  pub same : IsSameNetwork old.network new.network

-- Why a text is not migrated: it has this first fault, or it is that of a network of version 2 or 3 already. Memory can always be wanting.
abbrev pub Refuses : List ℕ → OrMemory MigrateFault → Type 0
Refuses bytes (Fault (Text fault)) = network_text bytes ≡ Err fault
Refuses bytes (Fault NotOld) = (tree : Members) × (document_of bytes ≡ Ok tree) × (DeclaresAs Two tree ⊎ DeclaresAs Three tree)
Refuses bytes Memory = Unit {0}

-- what migrating gave
abbrev pub Migrates : List ℕ → Result (Vec ℕ Global) (OrMemory MigrateFault) → Type 0
Migrates bytes (Ok text) = IsMigration bytes text.items
Migrates bytes (Err fault) = Refuses bytes fault
