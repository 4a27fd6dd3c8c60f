-- The refusal of a place by what follows it.
use Rattle.std.proofs.Common.{◌≡◌, ℕ, ◌&&◌, cond, Option, Some, None, option_map, List, [], ◌∷◌, length, Contains, refl, sym, subst}
use Rattle.std.specs.List.{list_all}
use Rattle.std.proofs.lemmas.Bool.{lt-ltb}
use Rattle.sw_topo.specs.Checked.{first_of}
use Rattle.sw_config.specs.Entries.{FlowEntry, Declaration}
use Rattle.sw_flow.specs.declared.place.Place.{Place}
use Rattle.sw_flow.specs.Places.{ends_of, look_after, Follows}
use Rattle.sw_flow.specs.Followers.{followers_of}
use Rattle.sw_flow.specs.Faults.{fault_of}
use Rattle.sw_flow.proofs.Listed.{Contains-head}
use Rattle.sw_flow.proofs.Outputs.{has_output-from_names}
use Rattle.sw_flow.proofs.Walked.{followers_are_listed}
use Rattle.sw_cert.specs.declared.refusal.Refusal.{Refusal}
use Rattle.sw_cert.specs.declared.refusal.Refusal.TheVariants.{Faulty, NotClosed}
use Rattle.sw_cert.specs.Refusals.{is_listed, refusal_of_place}

-- a place that another follows has no fault
faultless : (d : Declaration) (f : FlowEntry) (c k : ℕ) (q : Place) (qs : List Place) → followers_of d f c k ≡ q ∷ qs → fault_of d f c k ≡ None
faultless d f c k q qs e =
    let step : Follows d f c k q.channel q.deleted = (followers_are_listed d f c k q).0 (subst (λ (l : List Place). Contains l q) (sym e) (Contains-head q qs)) in
    rw (step.ends, lt-ltb k (length f.address) step.bytes_left, has_output-from_names (ends_of d) step.switch (look_after d f step.switch k) q.channel step.named) refl

pub followed : (d : Declaration) (i : ℕ) (f : FlowEntry) (listed : List Place) (p q : Place) (qs : List Place) → followers_of d f p.channel p.deleted ≡ q ∷ qs
    → refusal_of_place d i f listed p ≡ cond (is_listed listed q && list_all (is_listed listed) qs) None (Some (NotClosed i p))
followed d i f listed p q qs e = rw (faultless d f p.channel p.deleted q qs e, e) refl

first_alone : (o : Option Refusal) → first_of o None ≡ o
first_alone None = refl
first_alone (Some x) = refl

pub unfollowed : (d : Declaration) (i : ℕ) (f : FlowEntry) (listed : List Place) (p : Place) → followers_of d f p.channel p.deleted ≡ []
    → refusal_of_place d i f listed p ≡ option_map (Faulty i p) (fault_of d f p.channel p.deleted)
unfollowed d i f listed p e = rw e (first_alone (option_map (Faulty i p) (fault_of d f p.channel p.deleted)))
