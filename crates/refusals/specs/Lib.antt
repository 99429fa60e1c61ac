-- The numbers by which an operation turns its input down. Document 01, "Each operation's turn-downs"; from 17 on document 02.
use Rattle.std.specs.Prelude.{ℕ}
pub mod Number

-- net text: a line of the wrong form, a line that is missing, or text after the last
abbrev pub wrong_form : ℕ
wrong_form = 1

-- how large a net or its text is: too many places, transitions, arcs or bytes, or no place
abbrev pub bad_size : ℕ
bad_size = 2

-- a place number not below the place count
abbrev pub no_such_place : ℕ
no_such_place = 3

-- a value outside its domain, a NaN included
abbrev pub outside_domain : ℕ
outside_domain = 4

-- one place twice among the takes of a transition
abbrev pub taken_twice : ℕ
taken_twice = 5

-- a delay above 0 without a take
abbrev pub delay_without_take : ℕ
delay_without_take = 6

-- kinetic weights of a transition that total more than 16
abbrev pub kinetic_total : ℕ
kinetic_total = 7

abbrev pub bad_samples : ℕ
bad_samples = 8

abbrev pub bad_realizations : ℕ
bad_realizations = 9

abbrev pub bad_horizon : ℕ
bad_horizon = 10

abbrev pub short_table : ℕ
short_table = 11

abbrev pub bad_instants : ℕ
bad_instants = 12

abbrev pub bad_limit : ℕ
bad_limit = 13

-- during a run: a count would pass 2^53
abbrev pub count_too_large : ℕ
count_too_large = 14

-- during a run: a 257th timer would start
abbrev pub too_many_timers : ℕ
too_many_timers = 15

-- one normal draw rejects 128 pairs
abbrev pub no_normal : ℕ
no_normal = 16

-- a place's label that is absent or malformed
abbrev pub bad_label : ℕ
bad_label = 17

-- a label that an earlier place has already
abbrev pub used_label : ℕ
used_label = 18

-- a buffer shorter than the text that is to be written
abbrev pub short_buffer : ℕ
short_buffer = 19

-- the nets of a change have unequal place counts
abbrev pub unequal_places : ℕ
unequal_places = 20

-- a number of a renaming list that is out of range or listed twice on its side
abbrev pub bad_renaming : ℕ
bad_renaming = 21

-- a running timer that is unlisted, or sent to a transition without delay
abbrev pub bad_timer : ℕ
bad_timer = 22

-- a game on a net with a delayed transition
abbrev pub delayed_transition : ℕ
delayed_transition = 23

-- a list of sides that does not give each transition one side with at most 8 on each, or a turn number out of range
abbrev pub bad_sides : ℕ
bad_sides = 24

-- the place that a game is about is none of the net's
abbrev pub no_such_goal : ℕ
no_such_goal = 25
