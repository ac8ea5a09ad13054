-- What a telegram odometer means, and what reading it does.
use Rattle.std.specs.Prelude.{◌≡◌, ℕ, Some, None, Ok, Err, Option, Result}
use Rattle.odometer.specs.Meaning.{OdometerMeaning}
use Rattle.odometer.specs.TelegramWay.{telegram_outcome, telegram_way}
use Rattle.odometer.specs.declared.fault.Fault.{Fault}
use Rattle.odometer.specs.declared.telegram.Places.{Places}
use Rattle.odometer.specs.declared.telegram.Telegram.{Telegram}
use Rattle.odometer.specs.declared.units.Place.{Place}
use Rattle.odometer.specs.declared.way.Way.{Way}
use Rattle.std.specs.Option.{option_map}

-- the first place that was read and the last one
pub record Ends : Type 0 where
  pub first : Place
  pub last : Place

-- the two places that the code holds
abbrev pub between : Places → Ends
between p = record { first = p.first; last = p.last }

-- nothing before the first good reading
abbrev pub ends : Telegram → Option Ends
ends t = option_map between t.places

-- up to and with the first good reading the way is 0, and later it is that from the first place to the last
abbrev pub way_of : Option Ends → ℕ
way_of None = 0
way_of (Some e) = telegram_way e.first.decimetres e.last.decimetres

-- the first reading is good and moves nothing, whatever its place
abbrev pub outcome_of : Option Ends → (place : ℕ) → Result ℕ Fault
outcome_of None place = Ok 0
outcome_of (Some e) place = telegram_outcome e.first.decimetres e.last.decimetres place

-- a telegram odometer means the way from the first place to the last
abbrev pub telegram_meaning : OdometerMeaning Telegram Place
telegram_meaning = record { way = λ t. way_of (ends t); reads = λ t r. outcome_of (ends t) r.decimetres }

-- a place becomes the last one, and the first one where none was read before
abbrev pub joined_by : Option Ends → Place → Ends
joined_by None place = record { first = place; last = place }
joined_by (Some e) place = record { first = e.first; last = place }

-- a good reading's place is remembered, and a fault leaves the odometer as it was
abbrev pub Remembers : (before : Telegram) → Place → Result Way Fault → (after : Telegram) → Type 0
Remembers before place (Ok way) after = ends after ≡ Some (joined_by (ends before) place)
Remembers before place (Err f) after = after ≡ before

-- what comes of a place after others
abbrev pub Follows : Places → Place → Result Places Fault → Type 0
Follows p place (Ok q) =
    (between q ≡ joined_by (Some (between p)) place) ×
    (outcome_of (Some (between p)) place.decimetres ≡ Ok (telegram_way p.first.decimetres place.decimetres))
Follows p place (Err f) = outcome_of (Some (between p)) place.decimetres ≡ Err f
