use Rattle.std.proofs.Common.{subst, sym}
use Rattle.sw_search.proofs.deciding.survey.Goals as goal
use Rattle.sw_search.specs.Lists.{AreListed, AreRows}

pub rows_of-requires-after_bounds : goal.rows_of-requires-after_bounds
rows_of-requires-after_bounds g c κs within = subst (AreListed c.args.network.now) (sym c.deref.ensures.value) c.in_ok-lists.ensures

pub places_in-places-requires : goal.places_in-places-requires
places_in-places-requires g c = subst (AreListed c.args.network.now) (sym c.deref-2.ensures.value) c.in_ok-lists.ensures

pub dependencies_in-dependencies-requires : goal.dependencies_in-dependencies-requires
dependencies_in-dependencies-requires g c = subst (AreRows c.args.network.now) (sym c.deref-3.ensures.value) c.in_ok-rows.ensures.rows

pub verdict_by-requires-clause-lists : goal.verdict_by-requires-clause-lists
verdict_by-requires-clause-lists g c κs outlives = c.in_ok-lists.ensures

pub verdict_by-requires-clause-rows : goal.verdict_by-requires-clause-rows
verdict_by-requires-clause-rows g c κs outlives = subst (AreRows c.args.network.now) (sym c.deref-4.ensures.value) c.in_ok-rows.ensures.rows

pub verdict_by-requires-clause-routed : goal.verdict_by-requires-clause-routed
verdict_by-requires-clause-routed g c κs outlives = c.in_ok-rows.ensures.routed

pub returns : goal.returns
returns g c = record { verdict = c.in_ok-verdict.ensures; places = c.places_in-places.ensures; dependencies = c.dependencies_in-dependencies.ensures }
