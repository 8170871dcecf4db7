-- The bench figures P1 to P10 with the rules' own numbers, the illuminances and X, Y, Z worked again with the reference at
-- 555.017 nm, u′ and v′ beside x and y, research figures, strings of lamps, and some of the project's own. Refusals have their
-- numbers here too, so that the table holds the names to them.
use Rattle.std.specs.Prelude.{List, [], ◌∷◌, ◌++◌, ℕ, ◌-◌, replicate}
use Rattle.mixing.specs.Mixture.{mix, mixture}
use Rattle.grid.specs.Said.{Said, given}
use Rattle.figures.specs.Asked.{Asked, photopic, scotopic, photopic10, research, mesopic, xyz, xy, uv, panel_xyz, panel_xy, panel_uv, panel_figures}

-- an input, and what it must give
pub record Row : Type 0 where
  pub asked : Asked
  pub answer : Said

abbrev gives : Asked → List ℕ → Row
gives asked vs = record { asked = asked; answer = given vs [] }

abbrev refuses : Asked → ℕ → ℕ → Row
refuses asked number place = record { asked = asked; answer = record { number = number; place = place; values = []; floats = [] } }

-- n samples, all 0 but v at place i
abbrev pub lone : ℕ → ℕ → ℕ → List ℕ
lone n i v = replicate i 0 ++ v ∷ replicate (n - i - 1) 0

-- m rows of 41 samples that are alike, mixed
abbrev strung : ℕ → List ℕ → List ℕ
strung m xs = mixture 41 (replicate m xs)

-- from 380 nm at step 1, 401 samples, all 0 but v at a wavelength's place: 460, 485 and 555 nm
abbrev pub at460 : ℕ → List ℕ
at460 v = lone 401 80 v

abbrev at485 : ℕ → List ℕ
at485 v = lone 401 105 v

abbrev at555 : ℕ → List ℕ
at555 v = lone 401 175 v

-- 983 parts at 555 and 17 at 556 nm, which weigh what a thousand at 555.017 would
abbrev at_the_reference : List ℕ
at_the_reference = mix (at555 983000) (lone 401 176 17000)

-- n samples, all 0 but 1,000,000 at the first and at the last
abbrev lit_ends : ℕ → List ℕ
lit_ends n = 1000000 ∷ lone (n - 1) (n - 2) 1000000

-- from 360 to 830 nm at step 1, all at the limit
abbrev pub full_light : List ℕ
full_light = replicate 471 1000000

unfoldable pub rows : List Row
rows =
    -- P1: all zero
    gives (photopic 380 1 (replicate 401 0)) (0 ∷ [])
    ∷ gives (scotopic 380 1 (replicate 401 0)) (0 ∷ [])
    ∷ gives (photopic10 380 1 (replicate 401 0)) (0 ∷ [])
    ∷ gives (mesopic 500 380 1 (replicate 401 0)) (0 ∷ [])
    ∷ gives (xyz 2 380 1 (replicate 401 0)) (0 ∷ 0 ∷ 0 ∷ [])
    ∷ refuses (xy 2 380 1 (replicate 401 0)) 9 0
    ∷ refuses (uv 2 380 1 (replicate 401 0)) 9 0
    -- P2: 1,000,000 at 460
    ∷ gives (photopic 380 1 (at460 1000000)) (40980 ∷ [])
    ∷ gives (scotopic 380 1 (at460 1000000)) (963972 ∷ [])
    ∷ gives (xyz 2 380 1 (at460 1000000)) (198617 ∷ 40980 ∷ 1140066 ∷ [])
    ∷ gives (xy 2 380 1 (at460 1000000)) (14396 ∷ 2970 ∷ [])
    ∷ gives (uv 2 380 1 (at460 1000000)) (18766 ∷ 8712 ∷ [])
    ∷ gives (research 32 380 1 (at460 1000000)) (58187 ∷ [])
    ∷ gives (research 40 380 1 (at460 1000000)) (96637 ∷ [])
    -- P3: just above 1024.5, and just below
    ∷ gives (photopic 380 1 (at460 25000)) (1025 ∷ [])
    ∷ gives (photopic 380 1 (at460 24999)) (1024 ∷ [])
    -- P4: P2 mesopic at four settings
    ∷ gives (mesopic 0 380 1 (at460 1000000)) (963972 ∷ [])
    ∷ gives (mesopic 500 380 1 (at460 1000000)) (305508 ∷ [])
    ∷ gives (mesopic 1000 380 1 (at460 1000000)) (40980 ∷ [])
    ∷ refuses (mesopic 1001 380 1 (at460 1000000)) 5 0
    -- P5: step 5, the line reaches 456 and 464
    ∷ gives (photopic 380 5 (lone 81 16 1000000)) (205365 ∷ [])
    -- P6: 1,000,000 at 485
    ∷ gives (photopic 380 1 (at485 1000000)) (115632 ∷ [])
    ∷ gives (scotopic 380 1 (at485 1000000)) (1446808 ∷ [])
    ∷ gives (xy 2 380 1 (at485 1000000)) (6871 ∷ 20072 ∷ [])
    -- P7: P2 and P6 mixed
    ∷ gives (photopic 380 1 (mix (at460 1000000) (at485 1000000))) (156612 ∷ [])
    ∷ gives (xy 2 380 1 (mix (at460 1000000) (at485 1000000))) (12179 ∷ 8008 ∷ [])
    ∷ gives (uv 2 380 1 (mix (at460 1000000) (at485 1000000))) (13105 ∷ 19388 ∷ [])
    -- P8: 25,000 at 460 mixed with itself
    ∷ gives (photopic 380 1 (mix (at460 25000) (at460 25000))) (2049 ∷ [])
    -- P9: a full white panel under A and under D65, with the published white points
    ∷ gives (panel_xyz 2 1 360 1 (replicate 471 10000)) (109850 ∷ 100000 ∷ 35585 ∷ [])
    ∷ gives (panel_xyz 2 2 360 1 (replicate 471 10000)) (95047 ∷ 100000 ∷ 108883 ∷ [])
    -- P10: refusals
    ∷ refuses (photopic 380 3 (replicate 401 0)) 1 0
    ∷ refuses (photopic 299 1 (replicate 401 0)) 2 0
    ∷ refuses (photopic 381 1 (replicate 401 0)) 2 0
    ∷ refuses (photopic 380 1 (replicate 400 0)) 3 0
    ∷ refuses (photopic 380 1 (lone 401 7 1000001)) 4 7
    -- our own: exactly 93229.5, 107572.5, 129428.5 and 440876.5, and just below two of them; and X of exactly 18782.5
    ∷ gives (photopic 380 1 (mix (at555 136491) (lone 401 2 184750))) (93230 ∷ [])
    ∷ gives (photopic 380 1 (mix (at555 136491) (lone 401 2 184749))) (93229 ∷ [])
    ∷ gives (scotopic 380 1 (at460 111593)) (107573 ∷ [])
    ∷ gives (scotopic 380 1 (at460 111592)) (107572 ∷ [])
    ∷ gives (photopic10 380 1 (lone 401 173 189947)) (129429 ∷ [])
    ∷ gives (mesopic 500 380 1 (mix (at555 640885) (lone 401 49 31715))) (440877 ∷ [])
    ∷ gives (xyz 10 380 1 (lone 401 94 189947)) (18783 ∷ 27741 ∷ 141275 ∷ [])
    -- our own: research figures of exactly 3756.5 and 46785.5, and just below them
    ∷ gives (research 32 380 10 (mix (lone 41 4 1363) (lone 41 5 15532))) (3757 ∷ [])
    ∷ gives (research 32 380 10 (mix (lone 41 4 1363) (lone 41 5 15531))) (3756 ∷ [])
    ∷ gives (research 40 380 10 (mix (lone 41 3 209644) (lone 41 31 554720))) (46786 ∷ [])
    ∷ gives (research 40 380 10 (mix (lone 41 3 209644) (lone 41 31 554719))) (46785 ∷ [])
    -- our own: light as at 555.017, of which a watt has 683 lumens by V, V10, V′ and the cone-fundamental curves
    ∷ gives (photopic 380 1 at_the_reference) (683000 ∷ [])
    ∷ gives (scotopic 380 1 at_the_reference) (683000 ∷ [])
    ∷ gives (photopic10 380 1 at_the_reference) (683000 ∷ [])
    ∷ gives (mesopic 500 380 1 at_the_reference) (683000 ∷ [])
    ∷ gives (research 32 380 1 at_the_reference) (683000 ∷ [])
    ∷ gives (research 40 380 1 at_the_reference) (683000 ∷ [])
    ∷ gives (xyz 2 380 1 at_the_reference) (349920 ∷ 683000 ∷ 3922 ∷ [])
    ∷ gives (xyz 10 380 1 at_the_reference) (421342 ∷ 683000 ∷ 741 ∷ [])
    -- our own: a lone 1 at 460, whose X and Y round to 0
    ∷ gives (xyz 2 380 1 (at460 1)) (0 ∷ 0 ∷ 1 ∷ [])
    ∷ gives (xy 2 380 1 (at460 1)) (14396 ∷ 2970 ∷ [])
    ∷ gives (uv 2 380 1 (at460 1)) (18766 ∷ 8712 ∷ [])
    -- our own: u′ of exactly 51562.5 and v′ of exactly 39062.5; 1,000,000 at 600, where u′ of the rounded x and y would be 40104
    ∷ gives (uv 10 380 10 (mix (lone 41 25 594523) (lone 41 24 283786))) (51563 ∷ 52266 ∷ [])
    ∷ gives (uv 10 380 10 (mix (lone 41 26 577365) (lone 41 9 228674))) (34779 ∷ 39063 ∷ [])
    ∷ gives (uv 2 380 10 (lone 41 22 1000000)) (40103 ∷ 53971 ∷ [])
    -- our own: the greatest u′ and v′ for observer 2, the first by the last sample alone; and the first sample alone
    ∷ gives (uv 2 380 10 (lone 41 40 1000000)) (62337 ∷ 50650 ∷ [])
    ∷ gives (uv 2 380 1 (lone 401 151 1000000)) (5290 ∷ 58676 ∷ [])
    ∷ gives (uv 2 380 10 (lone 41 0 1000000)) (25708 ∷ 1677 ∷ [])
    -- our own: the cone-fundamental curves feel no light below 390 nm, but that at 390 and at 830, and that carried to 830
    ∷ gives (research 32 360 10 (replicate 3 1000000 ++ replicate 45 0)) (0 ∷ [])
    ∷ gives (research 40 360 10 (replicate 3 1000000 ++ replicate 45 0)) (0 ∷ [])
    ∷ gives (research 32 360 10 (lone 48 3 1000000)) (3042 ∷ [])
    ∷ gives (research 40 360 10 (lone 48 3 1000000)) (3078 ∷ [])
    ∷ gives (research 32 360 10 (lone 48 47 1000000)) (3 ∷ [])
    ∷ gives (research 40 360 10 (lone 48 47 1000000)) (3 ∷ [])
    ∷ gives (research 32 380 10 (lone 41 40 1000000)) (219 ∷ [])
    ∷ gives (research 40 380 10 (lone 41 40 1000000)) (197 ∷ [])
    -- our own: a lone 1 at 555 at step 5, whose line would be lost if T were divided by s
    ∷ gives (photopic 380 5 (lone 81 35 1)) (3 ∷ [])
    -- our own: 1,000,000 at 700, where z̄ is empty
    ∷ gives (xyz 2 380 1 (lone 401 320 1000000)) (7758 ∷ 2802 ∷ 0 ∷ [])
    -- our own: lit at 359 nm alone, at step 1, which carries no weight
    ∷ gives (photopic 300 1 (lone 531 59 1000000)) (0 ∷ [])
    ∷ refuses (xy 2 300 1 (lone 531 59 1000000)) 9 0
    -- our own: lit at 355 nm alone, at step 10, which pulls on the line that crosses 360
    ∷ gives (xyz 2 355 10 (lone 44 0 1000000)) (157 ∷ 5 ∷ 733 ∷ [])
    ∷ gives (xyz 10 355 10 (lone 44 0 1000000)) (0 ∷ 0 ∷ 1 ∷ [])
    -- our own: lit at 300 to 350 nm alone, at step 10, which reaches no 360
    ∷ refuses (xy 2 300 10 (replicate 6 1000000 ++ replicate 48 0)) 9 0
    -- our own: both ends lit, from 380 to 780, where they are carried to 360 and to 830, and from 300 to 830, where they aren't
    ∷ gives (scotopic 380 1 (lit_ends 401)) (1002 ∷ [])
    ∷ gives (mesopic 500 380 1 (lit_ends 401)) (553 ∷ [])
    ∷ gives (xyz 2 380 1 (lit_ends 401)) (8055 ∷ 372 ∷ 35939 ∷ [])
    ∷ gives (xyz 10 380 1 (lit_ends 401)) (761 ∷ 187 ∷ 1770 ∷ [])
    ∷ gives (xy 2 380 1 (lit_ends 401)) (18156 ∷ 839 ∷ [])
    ∷ gives (scotopic 380 10 (lit_ends 41)) (8490 ∷ [])
    ∷ gives (xyz 2 380 10 (lit_ends 41)) (14478 ∷ 611 ∷ 65458 ∷ [])
    ∷ gives (xyz 10 380 10 (lit_ends 41)) (2589 ∷ 422 ∷ 9270 ∷ [])
    ∷ gives (xyz 2 300 1 (lit_ends 531)) (1 ∷ 0 ∷ 0 ∷ [])
    ∷ gives (xyz 2 300 10 (lit_ends 54)) (6 ∷ 2 ∷ 0 ∷ [])
    ∷ gives (xyz 10 300 10 (lit_ends 54)) (7 ∷ 3 ∷ 0 ∷ [])
    -- our own: the last sample alone lit, whose carried tail reaches 830, and the first alone, carried down to 360
    ∷ gives (xyz 2 380 1 (lone 401 400 1000000)) (408 ∷ 147 ∷ 0 ∷ [])
    ∷ gives (xy 2 380 1 (lone 401 400 1000000)) (73469 ∷ 26531 ∷ [])
    ∷ gives (xyz 2 380 10 (lone 41 40 1000000)) (575 ∷ 208 ∷ 0 ∷ [])
    ∷ gives (xyz 2 380 1 (lone 401 0 1000000)) (7647 ∷ 225 ∷ 35939 ∷ [])
    ∷ gives (xyz 2 380 10 (lone 41 0 1000000)) (13903 ∷ 403 ∷ 65458 ∷ [])
    -- our own: 1,000,000 at each of 360 to 830, the most that any light can have; and from 380 to 780, which has no less
    ∷ gives (photopic 360 1 full_light) (72983452 ∷ [])
    ∷ gives (scotopic 360 1 full_light) (165033523 ∷ [])
    ∷ gives (photopic10 360 1 full_light) (79750145 ∷ [])
    ∷ gives (mesopic 0 360 1 full_light) (165033523 ∷ [])
    ∷ gives (mesopic 500 360 1 full_light) (99364891 ∷ [])
    ∷ gives (mesopic 1000 360 1 full_light) (72983452 ∷ [])
    ∷ gives (research 32 360 1 full_light) (77248855 ∷ [])
    ∷ gives (research 40 360 1 full_light) (80965642 ∷ [])
    ∷ gives (xyz 2 360 1 full_light) (72989293 ∷ 72983452 ∷ 73007585 ∷ [])
    ∷ gives (xyz 10 360 1 full_light) (79741014 ∷ 79750145 ∷ 79758419 ∷ [])
    ∷ gives (xyz 2 380 10 (replicate 41 1000000)) (72989293 ∷ 72983452 ∷ 73007585 ∷ [])
    -- our own: a full white panel for observer 10, and its x and y
    ∷ gives (panel_xyz 10 1 360 1 (replicate 471 10000)) (111144 ∷ 100000 ∷ 35200 ∷ [])
    ∷ gives (panel_xyz 10 2 360 1 (replicate 471 10000)) (94811 ∷ 100000 ∷ 107305 ∷ [])
    ∷ gives (panel_xy 2 2 360 1 (replicate 471 10000)) (31273 ∷ 32902 ∷ [])
    -- our own: its u′ and v′, for both observers, under A and under D65
    ∷ gives (panel_uv 2 1 360 1 (replicate 471 10000)) (25597 ∷ 52429 ∷ [])
    ∷ gives (panel_uv 2 2 360 1 (replicate 471 10000)) (19784 ∷ 46834 ∷ [])
    ∷ gives (panel_uv 10 1 360 1 (replicate 471 10000)) (25896 ∷ 52425 ∷ [])
    ∷ gives (panel_uv 10 2 360 1 (replicate 471 10000)) (19786 ∷ 46955 ∷ [])
    -- our own: a white panel from 380 to 780 at each step, which has the full one's X, Y, Z, and a grey one of 1234
    ∷ gives (panel_xyz 2 1 380 1 (replicate 401 10000)) (109850 ∷ 100000 ∷ 35585 ∷ [])
    ∷ gives (panel_xyz 2 2 380 2 (replicate 201 10000)) (95047 ∷ 100000 ∷ 108883 ∷ [])
    ∷ gives (panel_xyz 10 1 380 5 (replicate 81 10000)) (111144 ∷ 100000 ∷ 35200 ∷ [])
    ∷ gives (panel_xyz 10 2 380 10 (replicate 41 10000)) (94811 ∷ 100000 ∷ 107305 ∷ [])
    ∷ gives (panel_xyz 10 2 380 10 (replicate 41 1234)) (11700 ∷ 12340 ∷ 13241 ∷ [])
    -- our own: a panel's refusals
    ∷ refuses (panel_xyz 3 3 360 1 (replicate 471 10000)) 6 0
    ∷ refuses (panel_xyz 2 3 360 1 (replicate 471 10000)) 7 0
    ∷ refuses (panel_xyz 2 1 360 1 (lone 471 470 10001)) 8 470
    ∷ refuses (panel_xy 2 1 360 1 (replicate 471 0)) 9 0
    -- our own: strings of lamps that each read 1, by just above a half: 2, 3 and 64 of them read 1, 1 and 32 less than their sum
    ∷ gives (photopic 380 10 (lone 41 1 545)) (1 ∷ [])
    ∷ gives (photopic 380 10 (strung 2 (lone 41 1 545))) (1 ∷ [])
    ∷ gives (photopic 380 10 (strung 3 (lone 41 1 545))) (2 ∷ [])
    ∷ gives (photopic 380 10 (strung 64 (lone 41 1 545))) (32 ∷ [])
    -- our own: and of lamps that each read 0, by just below a half: they read 1, 1 and 32 more
    ∷ gives (photopic 380 10 (lone 41 1 544)) (0 ∷ [])
    ∷ gives (photopic 380 10 (strung 2 (lone 41 1 544))) (1 ∷ [])
    ∷ gives (photopic 380 10 (strung 3 (lone 41 1 544))) (1 ∷ [])
    ∷ gives (photopic 380 10 (strung 64 (lone 41 1 544))) (32 ∷ [])
    -- our own: 64 lamps that reach the limit together, and 64 that would pass it at the last place
    ∷ gives (photopic 380 10 (strung 64 (replicate 41 15625))) (72983452 ∷ [])
    ∷ refuses (photopic 380 10 (strung 64 (lone 41 40 15626))) 4 40
    -- our own: lamps at 460, 540 and 620 nm, by themselves and in a string with a dark one; one lit lamp between two dark ones; and
    -- 64 that are dark
    ∷ gives (xy 2 380 10 (lone 41 8 15625)) (14381 ∷ 3041 ∷ [])
    ∷ gives (xy 2 380 10 (lone 41 16 15625)) (23116 ∷ 75207 ∷ [])
    ∷ gives (xy 2 380 10 (lone 41 24 15625)) (68989 ∷ 30996 ∷ [])
    ∷ gives (xy 2 380 10 (mixture 41 (replicate 41 0 ∷ lone 41 8 15625 ∷ lone 41 16 15625 ∷ lone 41 24 15625 ∷ []))) (31806 ∷ 31014 ∷ [])
    ∷ gives (xy 2 380 10 (mixture 41 (replicate 41 0 ∷ lone 41 8 15625 ∷ replicate 41 0 ∷ []))) (14381 ∷ 3041 ∷ [])
    ∷ refuses (xy 2 380 10 (strung 64 (replicate 41 0))) 9 0
    -- our own: the refusals of u′ and v′, each before the next, of a light and of a panel
    ∷ refuses (uv 3 381 3 (lone 399 7 1000001)) 6 0
    ∷ refuses (uv 2 381 3 (lone 399 7 1000001)) 1 0
    ∷ refuses (uv 2 381 1 (lone 399 7 1000001)) 2 0
    ∷ refuses (uv 2 380 1 (lone 399 7 1000001)) 3 0
    ∷ refuses (uv 2 300 10 (lone 54 3 1000001)) 4 3
    ∷ refuses (uv 2 300 10 (lone 54 3 1000000)) 9 0
    ∷ refuses (panel_uv 3 3 381 3 (lone 399 7 10001)) 6 0
    ∷ refuses (panel_uv 2 3 381 3 (lone 399 7 10001)) 7 0
    ∷ refuses (panel_uv 2 1 381 3 (lone 399 7 10001)) 1 0
    ∷ refuses (panel_uv 2 1 381 1 (lone 399 7 10001)) 2 0
    ∷ refuses (panel_uv 2 1 380 1 (lone 399 7 10001)) 3 0
    ∷ refuses (panel_uv 2 1 300 10 (lone 54 3 10001)) 8 3
    ∷ refuses (panel_uv 2 1 300 10 (lone 54 3 10000)) 9 0
    -- our own: a research figure of a number that has none, and colour of one that has one
    ∷ refuses (research 2 380 10 (replicate 41 1000000)) 6 0
    ∷ refuses (research 10 380 10 (replicate 41 1000000)) 6 0
    ∷ refuses (research 31 380 10 (replicate 41 1000000)) 6 0
    ∷ refuses (research 41 380 10 (replicate 41 1000000)) 6 0
    ∷ refuses (xyz 32 380 10 (replicate 41 1000000)) 6 0
    ∷ refuses (xyz 40 380 10 (replicate 41 1000000)) 6 0
    ∷ refuses (xy 32 380 10 (replicate 41 1000000)) 6 0
    ∷ refuses (xy 40 380 10 (replicate 41 1000000)) 6 0
    ∷ refuses (uv 32 380 10 (replicate 41 1000000)) 6 0
    ∷ refuses (uv 40 380 10 (replicate 41 1000000)) 6 0
    ∷ refuses (panel_xyz 32 2 380 10 (replicate 41 10000)) 6 0
    ∷ refuses (panel_xy 40 2 380 10 (replicate 41 10000)) 6 0
    -- our own: the refusals of a research figure, each before the next, and a dark one's zero
    ∷ refuses (research 33 381 3 (lone 399 7 1000001)) 6 0
    ∷ refuses (research 32 381 3 (lone 399 7 1000001)) 1 0
    ∷ refuses (research 32 381 1 (lone 399 7 1000001)) 2 0
    ∷ refuses (research 32 380 1 (lone 399 7 1000001)) 3 0
    ∷ refuses (research 40 300 10 (lone 54 3 1000001)) 4 3
    ∷ gives (research 40 300 10 (lone 54 3 1000000)) (0 ∷ [])
    -- our own: a panel's figures in one answer: white, dark and refused
    ∷ gives (panel_figures 2 2 360 1 (replicate 471 10000)) (95047 ∷ 100000 ∷ 108883 ∷ 0 ∷ 31273 ∷ 32902 ∷ [])
    ∷ gives (panel_figures 2 1 360 1 (replicate 471 0)) (0 ∷ 0 ∷ 0 ∷ 9 ∷ 0 ∷ 0 ∷ [])
    ∷ refuses (panel_figures 2 1 360 1 (lone 471 470 10001)) 8 470
    ∷ []
