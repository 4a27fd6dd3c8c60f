-- The whole of a migration.
use Rattle.std.proofs.Common.{◌≡◌, ℕ, ◌≤◌, false, true, List, Result, Ok, Err, refl, sym, ◌∙◌, arith, subst}
use Rattle.toml.specs.Data.{Members, members_depth, members_have_valid_dates, members_are_sorted}
use Rattle.toml.specs.Text.{IsDocumentText}
use Rattle.sw_config.specs.Entries.{Declaration}
use Rattle.sw_text.specs.declared.keys.Version.TheVariants.{One, Two}
use Rattle.sw_text.specs.declared.fault.TextFault.{TextFault}
use Rattle.sw_text.specs.declared.fault.OrMemory.TheVariants as file
use Rattle.sw_text.specs.Gives.{FileFault, Fails}
use Rattle.sw_text.specs.Document.{document_of}
use Rattle.sw_file.specs.Network.{version_of, network_of}
use Rattle.sw_file.specs.Tree.{migrated}
use Rattle.sw_file.specs.Migration.{IsSameNetwork, DeclaresAs, IsMigration, Refuses}
use Rattle.sw_file.specs.Seen.{RefusesTree, refusal}
use Rattle.sw_file.proofs.RowEntries.{ok_same}
use Rattle.sw_file.proofs.NewNetwork.{new_tree, IsMigratedTree, migrated_tree, migrated_is, same_network}
use Rattle.sw_file.proofs.Plain.{PlainMembers}
use Rattle.sw_file.proofs.PlainTree.{tree_plain, new_tree_plain}

version_fails : (ms : Members) (fault : TextFault) → version_of ms ≡ Err fault → network_of ms ≡ Err fault
unfolding network_of
version_fails ms fault failed = rw failed refl

pub version_refused : (ms : Members) (e : FileFault) → Fails e (version_of ms) → RefusesTree ms (refusal e)
version_refused ms (file.Fault fault) failed = version_fails ms fault failed
version_refused ms file.Memory failed = tt

-- what is known of the migrated tree
pub record IsNewTree (tree : Members) (old : Declaration) (new : Members) : Type 0 where
  pub declares : DeclaresAs Two new
  pub same : IsSameNetwork old declares.network
  pub plain : PlainMembers 5 new

made : (tree : Members) (old : DeclaresAs One tree) → members_are_sorted tree ≡ true → (is : IsMigratedTree tree old.network) → IsNewTree tree old.network (new_tree is.tables tree)
made tree old sorted is = record {
  declares = record { network = is.new; versioned = is.version; declared = is.declared };
  same = same_network old.network is.new is.alike;
  plain = new_tree_plain tree is.tables is.switches (tree_plain tree old.network old.declared old.versioned sorted);
}

pub new_is : (tree new : Members) (old : DeclaresAs One tree) → members_are_sorted tree ≡ true → migrated tree ≡ Ok new → IsNewTree tree old.network new
new_is tree new old sorted well =
    let is = migrated_tree tree old.network old.declared old.versioned in
    subst (IsNewTree tree old.network) (ok_same (new_tree is.tables tree) new (sym (migrated_is tree is.tables is.switches) ∙ well)) (made tree old sorted is)

pub shallow : (tree new : Members) (old : DeclaresAs One tree) → members_are_sorted tree ≡ true → migrated tree ≡ Ok new → members_depth new ≤ 80
shallow tree new old sorted well =
    let few = (new_is tree new old sorted well).plain.shallow in
    omega arith

pub valid : (tree new : Members) (old : DeclaresAs One tree) → members_are_sorted tree ≡ true → migrated tree ≡ Ok new → members_have_valid_dates new ≡ true
valid tree new old sorted well = (new_is tree new old sorted well).plain.valid

pub never_fails : (tree : Members) (bytes : List ℕ) (old : DeclaresAs One tree) (e : FileFault) → Fails e (migrated tree) → Refuses bytes (refusal e)
never_fails tree bytes old (file.Fault fault) failed =
    let is = migrated_tree tree old.network old.declared old.versioned in
    let both : ◌≡◌ {A = Result Members TextFault} (Ok (new_tree is.tables tree)) (Err fault) = sym (migrated_is tree is.tables is.switches) ∙ failed in
    absurd cc
never_fails tree bytes old file.Memory failed = tt

pub whole : (bytes text : List ℕ) (tree new : Members) (old : DeclaresAs One tree) → document_of bytes ≡ Ok tree → members_are_sorted tree ≡ true → migrated tree ≡ Ok new → IsDocumentText false new text → document_of text ≡ Ok new → IsMigration bytes text
whole bytes text tree new old document sorted well written back =
    let is = new_is tree new old sorted well in
    record {
      tree = tree;
      new_tree = new;
      is_document = document;
      old = old;
      is_migrated = well;
      is_written = written;
      reads_back = back;
      new = is.declares;
      same = is.same;
    }
