-- A value for each of the four places.
use Rattle.pel_model.specs.declared.Quad.{Quad}
use Rattle.pel_model.specs.declared.Quad.TheVariants.{One, Two, Three, Four}
use Rattle.stage_plan.specs.declared.per_place.PerPlace.{PerPlace}

-- the value of a place
abbrev pub in_place : {A : Type 0} → PerPlace A → Quad → A
in_place f One = f.one
in_place f Two = f.two
in_place f Three = f.three
in_place f Four = f.four

-- the same values, but for one place
abbrev pub with_place : {A : Type 0} → PerPlace A → Quad → A → PerPlace A
with_place f One x = record f { one = x }
with_place f Two x = record f { two = x }
with_place f Three x = record f { three = x }
with_place f Four x = record f { four = x }

-- one value in all places
abbrev pub in_all : {A : Type 0} → A → PerPlace A
in_all x = record { one = x; two = x; three = x; four = x }
