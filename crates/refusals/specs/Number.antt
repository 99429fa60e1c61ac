-- The number by which documents 01 and 02 know a refusal of the program ("Each operation's turn-downs" and the orders' "Answers"): each is the reason
-- of its name.
use Rattle.std.specs.Prelude.{ℕ}
use Rattle.refusals.specs.declared.Refusal.{Refusal}
use Rattle.refusals.specs.declared.Refusal.TheVariants.{WrongForm, BadSize, NoSuchPlace, OutsideDomain, TakenTwice, DelayWithoutTake, KineticTotal, BadSamples, BadRealizations, BadHorizon, ShortTable, BadInstants, BadLimit, CountTooLarge, TooManyTimers, NoNormal, BadLabel, UsedLabel, ShortBuffer, UnequalPlaces, BadRenaming, BadTimer, DelayedTransition, BadSides, NoSuchGoal}
use Rattle.refusals.specs as Reason

abbrev pub number_of : Refusal → ℕ
number_of WrongForm = Reason.wrong_form
number_of BadSize = Reason.bad_size
number_of NoSuchPlace = Reason.no_such_place
number_of OutsideDomain = Reason.outside_domain
number_of TakenTwice = Reason.taken_twice
number_of DelayWithoutTake = Reason.delay_without_take
number_of KineticTotal = Reason.kinetic_total
number_of BadSamples = Reason.bad_samples
number_of BadRealizations = Reason.bad_realizations
number_of BadHorizon = Reason.bad_horizon
number_of ShortTable = Reason.short_table
number_of BadInstants = Reason.bad_instants
number_of BadLimit = Reason.bad_limit
number_of CountTooLarge = Reason.count_too_large
number_of TooManyTimers = Reason.too_many_timers
number_of NoNormal = Reason.no_normal
number_of BadLabel = Reason.bad_label
number_of UsedLabel = Reason.used_label
number_of ShortBuffer = Reason.short_buffer
number_of UnequalPlaces = Reason.unequal_places
number_of BadRenaming = Reason.bad_renaming
number_of BadTimer = Reason.bad_timer
number_of DelayedTransition = Reason.delayed_transition
number_of BadSides = Reason.bad_sides
number_of NoSuchGoal = Reason.no_such_goal
