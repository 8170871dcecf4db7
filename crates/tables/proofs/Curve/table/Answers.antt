-- The numbers of the code are the tables', counted in their units: written by tools/tables.
use Rattle.tables.specs.Tables.{table}
use Rattle.tables.specs.Units.{unit_at}
use Rattle.tables.specs.Held.{counted_from, in_units}
use Rattle.tables.proofs.Curve.table.Goals as goal

pub returns-in-XBar-clause-counts : goal.returns-in-XBar-clause-counts
unfolding in_units counted_from unit_at table
returns-in-XBar-clause-counts c = rw c.in-XBar.is

pub returns-in-YBar-clause-counts : goal.returns-in-YBar-clause-counts
unfolding in_units counted_from unit_at table
returns-in-YBar-clause-counts c = rw c.in-YBar.is

pub returns-in-ZBar-clause-counts : goal.returns-in-ZBar-clause-counts
unfolding in_units counted_from unit_at table
returns-in-ZBar-clause-counts c = rw c.in-ZBar.is

pub returns-in-XBar10-clause-counts : goal.returns-in-XBar10-clause-counts
unfolding in_units counted_from unit_at table
returns-in-XBar10-clause-counts c = rw c.in-XBar10.is

pub returns-in-YBar10-clause-counts : goal.returns-in-YBar10-clause-counts
unfolding in_units counted_from unit_at table
returns-in-YBar10-clause-counts c = rw c.in-YBar10.is

pub returns-in-ZBar10-clause-counts : goal.returns-in-ZBar10-clause-counts
unfolding in_units counted_from unit_at table
returns-in-ZBar10-clause-counts c = rw c.in-ZBar10.is

pub returns-in-VPrime-clause-counts : goal.returns-in-VPrime-clause-counts
unfolding in_units counted_from unit_at table
returns-in-VPrime-clause-counts c = rw c.in-VPrime.is

pub returns-in-VF-clause-counts : goal.returns-in-VF-clause-counts
unfolding in_units counted_from unit_at table
returns-in-VF-clause-counts c = rw c.in-VF.is

pub returns-in-VF10-clause-counts : goal.returns-in-VF10-clause-counts
unfolding in_units counted_from unit_at table
returns-in-VF10-clause-counts c = rw c.in-VF10.is
