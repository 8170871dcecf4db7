-- The numbers of refusals, by the rules' names. 15 is not used: no reading can pass 32 bits.
use Rattle.std.specs.Prelude.{ℕ}
use Rattle.grid.specs.declared.refusals.Kind.{Kind}
use Rattle.grid.specs.declared.refusals.Kind.TheVariants.{Step, Start, Count, Sample, Mesopic, Observer, Illuminant, Reflectance, Dark, Edition, Reserved, Length, Padding, Room}

abbrev pub number_of : Kind → ℕ
number_of Step = 1
number_of Start = 2
number_of Count = 3
number_of Sample = 4
number_of Mesopic = 5
number_of Observer = 6
number_of Illuminant = 7
number_of Reflectance = 8
number_of Dark = 9
number_of Edition = 10
number_of Reserved = 11
number_of Length = 12
number_of Padding = 13
number_of Room = 14
