-- A certificate whose numbers rise along the dependencies is accepted, as that of a free network is.
use Rattle.std.proofs.Common.{◌≡◌, ℕ, ◌<◌, ◌≤◌, List, map, length, Some, refl, sym, ◌∙◌, subst}
use Rattle.std.specs.Prelude.{slice_get, slice_index}
use Rattle.std.specs.List.{AllZip}
use Rattle.std.proofs.lemmas.List.{length-map}
use Rattle.std.proofs.lemmas.List.Elements.{All-contains}
use Rattle.sw_config.specs.Entries.{FlowEntry, Declaration, all_flows}
use Rattle.sw_config.specs.Valid.{IsValid}
use Rattle.sw_flow.specs.declared.place.Place.{Place}
use Rattle.sw_flow.specs.Places.{ends_of, IsPlaceList}
use Rattle.sw_flow.specs.Faults.{IsWellRouted}
use Rattle.sw_flow.proofs.Stepping.{places_are_in}
use Rattle.sw_cert.specs.Text.{Contents}
use Rattle.sw_machine.specs.Places as machine
use Rattle.sw_machine.specs.Places.IsPlace.{Start, Goes}
use Rattle.sw_machine.specs.Places.IsDependency.{ByFlow, ByTarget}
use Rattle.sw_machine.specs.Certificate.{IsListed, IsAccepted}
use Rattle.sw_cycle.specs.Model.{network_of}
use Rattle.sw_cycle.specs.ModelLaws.{FlowAgrees}
use Rattle.sw_cycle.proofs.Flows.{flow_at, some_at}
use Rattle.sw_cycle.proofs.Steps.{steps_agree}
use Rattle.sw_cert.specs.Contents.{place_of, certificate_of}
use Rattle.sw_cert.proofs.ListedPlaces.{to_machine, from_machine}
use Rattle.sw_cert.proofs.Lists.{Contains-at}
use Rattle.sw_search.specs.Verdicts.{AllWellRouted, depends, IsFree}
use Rattle.sw_search.proofs.Decided.{among}
use Rattle.sw_search.proofs.Levels.{rising_by}
use Rattle.sw_search.proofs.Zips.{zip_here, zip_length}

-- each flow is well routed, the numbers rise along the dependencies, and the places of each flow are listed
pub record AreRising (d : Declaration) (c : Contents) : Type 0 where
  pub routed : AllWellRouted d
  pub size : length c.numbers ≡ length (ends_of d)
  pub rising : (x y : ℕ) → depends d x y → slice_index c.numbers x < slice_index c.numbers y
  pub places : AllZip (IsPlaceList d) (all_flows d) c.places

-- flow i and the places listed for it
record IsHere (d : Declaration) (c : Contents) (i : ℕ) : Type 0 where
  flow : FlowEntry
  listed : List Place
  here : slice_get (all_flows d) i ≡ Some flow
  there : slice_get c.places i ≡ Some listed
  list : IsPlaceList d flow listed

module _ (d : Declaration) (c : Contents) (valid : IsValid d) (are : AreRising d c) where
  here_at : (i : ℕ) → i < length (all_flows d) → IsHere d c i
  here_at i lt =
      let f = some_at (all_flows d) i lt in
      let ps = zip_here (IsPlaceList d) (all_flows d) c.places are.places i f.0 f.1 in
      record { flow = f.0; listed = ps.0; here = f.1; there = ps.1; list = ps.2 }

  module _ (i : ℕ) (lt : i < length (all_flows d)) where
    a : IsHere d c i
    a = here_at i lt

    agrees : FlowAgrees d i a.flow
    agrees = steps_agree d valid i a.flow a.here

    -- the listed places are the flow's places
    place_of_listed : (e k : ℕ) → IsListed (certificate_of c) i e k → machine.IsPlace (network_of d) i e k
    place_of_listed e k h = (agrees.place e k).1 ((a.list.member (record { channel = e; deleted = k })).0 (from_machine c i a.listed a.there e k h))

    listed_of_place : (e k : ℕ) → machine.IsPlace (network_of d) i e k → IsListed (certificate_of c) i e k
    listed_of_place e k p = to_machine c i a.listed a.there (record { channel = e; deleted = k }) ((a.list.member (record { channel = e; deleted = k })).1 ((agrees.place e k).0 p))

    place_in : (e k : ℕ) → machine.IsPlace (network_of d) i e k → (e < length (ends_of d)) × (k ≤ length a.flow.address)
    place_in e k p = places_are_in d a.flow e k ((agrees.place e k).0 p)

    address_is : (flow_at d i).address ≡ a.flow.address
    address_is = rw a.here refl

    in_range : (e k : ℕ) → machine.IsPlace (network_of d) i e k → (e < length (ends_of d)) × (k ≤ length (flow_at d i).address)
    in_range e k p = let both = place_in e k p in (both.0, subst (λ (l : List ℕ). k ≤ length l) (sym address_is) both.1)

    routed : machine.IsWellRouted (network_of d) i
    routed = agrees.well_routed.1 (All-contains (IsWellRouted d) (all_flows d) a.flow are.routed (Contains-at (all_flows d) i a.flow a.here))

    step_rises : (e k b m : ℕ) → i < (network_of d).flows → machine.IsPlace (network_of d) i e k → machine.Follows (network_of d) i e k b m → slice_index c.numbers e < slice_index c.numbers b
    step_rises e k b m inside p step = are.rising e b (ByFlow i e k b m inside p step)

  flow_count : (network_of d).flows ≡ length (all_flows d)
  unfolding network_of
  flow_count = refl

  channel_count : (network_of d).channels ≡ length (ends_of d)
  unfolding network_of
  channel_count = refl

  target_rises : (i j : ℕ) → i < (network_of d).flows → ((network_of d).flow i).reply ≡ Some j → (machine.AlwaysTakes (network_of d) ((network_of d).flow i).to → ⊥) → slice_index c.numbers ((network_of d).into ((network_of d).flow i).to) < slice_index c.numbers ((network_of d).out ((network_of d).flow i).to)
  target_rises i j lt has waits = are.rising ((network_of d).into ((network_of d).flow i).to) ((network_of d).out ((network_of d).flow i).to) (ByTarget i j lt has waits)

  inside : (i : ℕ) → i < (network_of d).flows → i < length (all_flows d)
  inside i lt = subst (λ (n : ℕ). i < n) flow_count lt

  counts : (length c.numbers ≡ (network_of d).channels) × (length (certificate_of c).places ≡ (network_of d).flows)
  counts = (are.size ∙ sym channel_count, length-map c.places (map place_of) ∙ zip_length (IsPlaceList d) (all_flows d) c.places are.places ∙ sym flow_count)

  in_it : (i e k : ℕ) → i < (network_of d).flows → IsListed (certificate_of c) i e k → (e < (network_of d).channels) × (k ≤ length ((network_of d).flow i).address)
  unfolding network_of
  in_it i e k lt h = in_range i lt e k (place_of_listed i lt e k h)

  pub rising_accepted : IsAccepted (network_of d) (certificate_of c)
  rising_accepted = record {
    channels = counts.0;
    flows = counts.1;
    in_range = in_it;
    starts = λ i lt. listed_of_place i (inside i lt) ((network_of d).out ((network_of d).flow i).from) 0 Start;
    faultless = λ i e k lt h. routed i (inside i lt) e k (place_of_listed i (inside i lt) e k h);
    closed = λ i e k b m lt h step. listed_of_place i (inside i lt) b m (Goes e k b m (place_of_listed i (inside i lt) e k h) step);
    rising = λ i e k b m lt h step. step_rises i (inside i lt) e k b m lt (place_of_listed i (inside i lt) e k h) step;
    targets = target_rises;
  }

pub accepted : (d : Declaration) (c : Contents) → IsValid d → IsFree d c → IsAccepted (network_of d) (certificate_of c)
accepted d c valid free = rising_accepted d c valid (record {
  routed = free.routed;
  size = free.levels.size;
  rising = rising_by (depends d) (length (ends_of d)) (among d valid) c.numbers free.levels;
  places = free.places;
})
