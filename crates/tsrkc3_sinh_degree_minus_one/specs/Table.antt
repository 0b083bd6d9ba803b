-- TSRKC3's sinh of (s - 1) acosh(1.25) / s: a table of document 02, CR 7, with the doubles of the named build (docs/VECTORS.md). Bit patterns, 16 counts a row,
-- a row's first count above it. A count outside 3 to 1000 has the nearest entry.
use Rattle.std.specs.Prelude.{ℕ, min, List, [], ◌∷◌, Float}
use Rattle.table.specs.Rows.{entry}

abbrev pub bits : List (List ℕ)
bits =
    -- 0
    (0x3fdea35a50ed69ec ∷ 0x3fdea35a50ed69ec ∷ 0x3fdea35a50ed69ec ∷ 0x3fdea35a50ed69ec ∷
    0x3fe165209441f822 ∷ 0x3fe2ab04177e6de6 ∷ 0x3fe38770a56ad5c9 ∷ 0x3fe426834f9e9265 ∷
    0x3fe49ebcbebcfbca ∷ 0x3fe4fccda4eccde4 ∷ 0x3fe5486a0a0527e0 ∷ 0x3fe58684930f87b1 ∷
    0x3fe5ba701da35691 ∷ 0x3fe5e67d7569c271 ∷ 0x3fe60c564c059739 ∷ 0x3fe62d343cfe8347 ∷ []) ∷
    -- 16
    (0x3fe64a036c27cc51 ∷ 0x3fe663790defb5b0 ∷ 0x3fe67a2280bd8f36 ∷ 0x3fe68e6fadb1d0ae ∷
    0x3fe6a0ba53e34258 ∷ 0x3fe6b14b42eee51d ∷ 0x3fe6c05e2ba2542d ∷ 0x3fe6ce2473fd8ff0 ∷
    0x3fe6dac757a81aca ∷ 0x3fe6e66986bd482f ∷ 0x3fe6f12865966499 ∷ 0x3fe6fb1d06078509 ∷
    0x3fe7045ceb933058 ∷ 0x3fe70cfaa74c3c22 ∷ 0x3fe7150654beaf2a ∷ 0x3fe71c8dfed2d2c0 ∷ []) ∷
    -- 32
    (0x3fe7239df1e38286 ∷ 0x3fe72a40fefe8f5a ∷ 0x3fe73080b3589f29 ∷ 0x3fe73665864d3f35 ∷
    0x3fe73bf6ffbf1a08 ∷ 0x3fe7413bd8479e66 ∷ 0x3fe7463a14587702 ∷ 0x3fe74af71b35ef18 ∷
    0x3fe74f77ca8361e8 ∷ 0x3fe753c086f6e022 ∷ 0x3fe757d54aacef5e ∷ 0x3fe75bb9b17ee3f4 ∷
    0x3fe75f7103ac81dc ∷ 0x3fe762fe3f1b4950 ∷ 0x3fe766641f625540 ∷ 0x3fe769a524d0632e ∷ []) ∷
    -- 48
    (0x3fe76cc39a920b0e ∷ 0x3fe76fc19c17fee6 ∷ 0x3fe772a119d816b7 ∷ 0x3fe77563dd7fbea6 ∷
    0x3fe7780b8daae732 ∷ 0x3fe77a99b12fb714 ∷ 0x3fe77d0fb20cd85b ∷ 0x3fe77f6ee00638aa ∷
    0x3fe781b872fa64cc ∷ 0x3fe783ed8cf93c24 ∷ 0x3fe7860f3c23852b ∷ 0x3fe7881e7c59e771 ∷
    0x3fe78a1c38c0f1d7 ∷ 0x3fe78c094d1f16b3 ∷ 0x3fe78de68718e5a6 ∷ 0x3fe78fb4a74f4078 ∷ []) ∷
    -- 64
    (0x3fe791746262d0a7 ∷ 0x3fe7932661df9d06 ∷ 0x3fe794cb4513456a ∷ 0x3fe79663a1d01ded ∷
    0x3fe797f0051f2042 ∷ 0x3fe79970f3e26f7c ∷ 0x3fe79ae6eb69f83b ∷ 0x3fe79c5261fb8aa7 ∷
    0x3fe79db3c74fa52f ∷ 0x3fe79f0b850404cc ∷ 0x3fe7a059ff04f1e3 ∷ 0x3fe7a19f93ee2669 ∷
    0x3fe7a2dc9d6412ed ∷ 0x3fe7a4117066339f ∷ 0x3fe7a53e5d9b142e ∷ 0x3fe7a663b1969195 ∷ []) ∷
    -- 80
    (0x3fe7a781b51ada66 ∷ 0x3fe7a898ad54a180 ∷ 0x3fe7a9a8dc12ec12 ∷ 0x3fe7aab27ffad95c ∷
    0x3fe7abb5d4b7b9e9 ∷ 0x3fe7acb31327c3df ∷ 0x3fe7adaa7185aabf ∷ 0x3fe7ae9c238f5a89 ∷
    0x3fe7af885aaa106c ∷ 0x3fe7b06f460405f0 ∷ 0x3fe7b15112b3deca ∷ 0x3fe7b22debd60569 ∷
    0x3fe7b305faa81e63 ∷ 0x3fe7b3d966a2b77a ∷ 0x3fe7b4a8559153e4 ∷ 0x3fe7b572eba8f495 ∷ []) ∷
    -- 96
    (0x3fe7b6394b9d38c7 ∷ 0x3fe7b6fb96b430b0 ∷ 0x3fe7b7b9ecd8fa20 ∷ 0x3fe7b8746cad3d05 ∷
    0x3fe7b92b33999bd8 ∷ 0x3fe7b9de5ddd2a8c ∷ 0x3fe7ba8e069bfd17 ∷ 0x3fe7bb3a47ecdd5b ∷
    0x3fe7bbe33ae636e3 ∷ 0x3fe7bc88f7aa4611 ∷ 0x3fe7bd2b95729709 ∷ 0x3fe7bdcb2a9adfe9 ∷
    0x3fe7be67ccab40ef ∷ 0x3fe7bf019061f480 ∷ 0x3fe7bf9889bc781a ∷ 0x3fe7c02ccc0036c4 ∷ []) ∷
    -- 112
    (0x3fe7c0be69c2bce6 ∷ 0x3fe7c14d74f17cd1 ∷ 0x3fe7c1d9fed92ac4 ∷ 0x3fe7c264182cb6ec ∷
    0x3fe7c2ebd10beb06 ∷ 0x3fe7c3713909b179 ∷ 0x3fe7c3f45f320abb ∷ 0x3fe7c475520fb602 ∷
    0x3fe7c4f41fb1919a ∷ 0x3fe7c570d5afb722 ∷ 0x3fe7c5eb81305786 ∷ 0x3fe7c6642eec5a6e ∷
    0x3fe7c6daeb33c479 ∷ 0x3fe7c74fc1f1e780 ∷ 0x3fe7c7c2beb15fea ∷ 0x3fe7c833ec9fe1c4 ∷ []) ∷
    -- 128
    (0x3fe7c8a35691d856 ∷ 0x3fe7c9110705daad ∷ 0x3fe7c97d0827f753 ∷ 0x3fe7c9e763d4d978 ∷
    0x3fe7ca50239cc99b ∷ 0x3fe7cab750c68b7c ∷ 0x3fe7cb1cf4521b5c ∷ 0x3fe7cb8116fb4c00 ∷
    0x3fe7cbe3c13c4748 ∷ 0x3fe7cc44fb4ff2b8 ∷ 0x3fe7cca4cd343966 ∷ 0x3fe7cd033eac3cb3 ∷
    0x3fe7cd6057426cf7 ∷ 0x3fe7cdbc1e4a8b6c ∷ 0x3fe7ce169ae3965c ∷ 0x3fe7ce6fd3f9a0c3 ∷ []) ∷
    -- 144
    (0x3fe7cec7d0479640 ∷ 0x3fe7cf1e9658ec5e ∷ 0x3fe7cf742c8b421a ∷ 0x3fe7cfc8990fee7a ∷
    0x3fe7d01be1ed7ef1 ∷ 0x3fe7d06e0d012680 ∷ 0x3fe7d0bf20001e0c ∷ 0x3fe7d10f2078f6d0 ∷
    0x3fe7d15e13d4df6e ∷ 0x3fe7d1abff58dc48 ∷ 0x3fe7d1f8e826f3ae ∷ 0x3fe7d244d33f4e78 ∷
    0x3fe7d28fc5814d82 ∷ 0x3fe7d2d9c3ac9498 ∷ 0x3fe7d322d2620b3e ∷ 0x3fe7d36af624d3cd ∷ []) ∷
    -- 160
    (0x3fe7d3b2335b3947 ∷ 0x3fe7d3f88e4f9466 ∷ 0x3fe7d43e0b312815 ∷ 0x3fe7d482ae14f5e3 ∷
    0x3fe7d4c67af68aaf ∷ 0x3fe7d50975b8c3de ∷ 0x3fe7d54ba2268d78 ∷ 0x3fe7d58d03f39973 ∷
    0x3fe7d5cd9ebd1073 ∷ 0x3fe7d60d760a3c3f ∷ 0x3fe7d64c8d4d2c46 ∷ 0x3fe7d68ae7e35449 ∷
    0x3fe7d6c88916258a ∷ 0x3fe7d705741ba2b6 ∷ 0x3fe7d741ac16ee9e ∷ 0x3fe7d77d3418d621 ∷ []) ∷
    -- 176
    (0x3fe7d7b80f205566 ∷ 0x3fe7d7f2401b1878 ∷ 0x3fe7d82bc9e5f7b2 ∷ 0x3fe7d864af4d6fe9 ∷
    0x3fe7d89cf30e1697 ∷ 0x3fe7d8d497d50a3c ∷ 0x3fe7d90ba0405ef5 ∷ 0x3fe7d9420edf87a0 ∷
    0x3fe7d977e633bb78 ∷ 0x3fe7d9ad28b05879 ∷ 0x3fe7d9e1d8bb4293 ∷ 0x3fe7da15f8ad3fca ∷
    0x3fe7da498ad25170 ∷ 0x3fe7da7c916a0a8a ∷ 0x3fe7daaf0ea7e369 ∷ 0x3fe7dae104b38ac3 ∷ []) ∷
    -- 192
    (0x3fe7db1275a93424 ∷ 0x3fe7db436399e40a ∷ 0x3fe7db73d08bb994 ∷ 0x3fe7dba3be7a35f4 ∷
    0x3fe7dbd32f5681b5 ∷ 0x3fe7dc022507afe6 ∷ 0x3fe7dc30a16aff2d ∷ 0x3fe7dc5ea65418ff ∷
    0x3fe7dc8c358d4ed8 ∷ 0x3fe7dcb950d7d5af ∷ 0x3fe7dce5f9ebffaf ∷ 0x3fe7dd123279741b ∷
    0x3fe7dd3dfc2765b1 ∷ 0x3fe7dd695894c764 ∷ 0x3fe7dd9449587f94 ∷ 0x3fe7ddbed00199ba ∷ []) ∷
    -- 208
    (0x3fe7dde8ee1776c7 ∷ 0x3fe7de12a519fbfa ∷ 0x3fe7de3bf681c078 ∷ 0x3fe7de64e3c03991 ∷
    0x3fe7de8d6e3fe5c4 ∷ 0x3fe7deb597647696 ∷ 0x3fe7dedd608af928 ∷ 0x3fe7df04cb09fdc0 ∷
    0x3fe7df2bd831be33 ∷ 0x3fe7df52894c4339 ∷ 0x3fe7df78df9d88c6 ∷ 0x3fe7df9edc63a159 ∷
    0x3fe7dfc480d6d857 ∷ 0x3fe7dfe9ce29d380 ∷ 0x3fe7e00ec589b372 ∷ 0x3fe7e033681e3351 ∷ []) ∷
    -- 224
    (0x3fe7e057b709c79a ∷ 0x3fe7e07bb369bc1b ∷ 0x3fe7e09f5e565124 ∷ 0x3fe7e0c2b8e2d7f8 ∷
    0x3fe7e0e5c41dce71 ∷ 0x3fe7e1088110f9fb ∷ 0x3fe7e12af0c181d3 ∷ 0x3fe7e14d1430088e ∷
    0x3fe7e16eec58c50f ∷ 0x3fe7e1907a339abe ∷ 0x3fe7e1b1beb43133 ∷ 0x3fe7e1d2baca0b41 ∷
    0x3fe7e1f36f609d67 ∷ 0x3fe7e213dd5f63b3 ∷ 0x3fe7e23405a9f71e ∷ 0x3fe7e253e920224c ∷ []) ∷
    -- 240
    (0x3fe7e273889df5e1 ∷ 0x3fe7e292e4fbdc45 ∷ 0x3fe7e2b1ff0eace2 ∷ 0x3fe7e2d0d7a7bf03 ∷
    0x3fe7e2ef6f94fc25 ∷ 0x3fe7e30dc7a0f1dc ∷ 0x3fe7e32be092e34e ∷ 0x3fe7e349bb2eda3a ∷
    0x3fe7e3675835b797 ∷ 0x3fe7e384b86543d7 ∷ 0x3fe7e3a1dc783eb0 ∷ 0x3fe7e3bec5266e9b ∷
    0x3fe7e3db7324afeb ∷ 0x3fe7e3f7e7250386 ∷ 0x3fe7e41421d69d49 ∷ 0x3fe7e43023e5f211 ∷ []) ∷
    -- 256
    (0x3fe7e44bedfcc57a ∷ 0x3fe7e46780c23741 ∷ 0x3fe7e482dcdad05a ∷ 0x3fe7e49e02e88fbe ∷
    0x3fe7e4b8f38af6dc ∷ 0x3fe7e4d3af5f15dc ∷ 0x3fe7e4ee36ff9780 ∷ 0x3fe7e5088b04ccd8 ∷
    0x3fe7e522ac04b894 ∷ 0x3fe7e53c9a931a30 ∷ 0x3fe7e556574178d6 ∷ 0x3fe7e56fe29f2dfe ∷
    0x3fe7e5893d396fd1 ∷ 0x3fe7e5a2679b5b52 ∷ 0x3fe7e5bb624dfe5a ∷ 0x3fe7e5d42dd86144 ∷ []) ∷
    -- 272
    (0x3fe7e5eccabf906e ∷ 0x3fe7e6053986a592 ∷ 0x3fe7e61d7aaed0cf ∷ 0x3fe7e6358eb76194 ∷
    0x3fe7e64d761dcf58 ∷ 0x3fe7e665315dc217 ∷ 0x3fe7e67cc0f11aa6 ∷ 0x3fe7e694254ffae0 ∷
    0x3fe7e6ab5ef0cd99 ∷ 0x3fe7e6c26e484e73 ∷ 0x3fe7e6d953c99178 ∷ 0x3fe7e6f00fe60aa1 ∷
    0x3fe7e706a30d951f ∷ 0x3fe7e71d0dae7a86 ∷ 0x3fe7e733503579d8 ∷ 0x3fe7e7496b0dce58 ∷ []) ∷
    -- 288
    (0x3fe7e75f5ea1364f ∷ 0x3fe7e7752b57f99f ∷ 0x3fe7e78ad198f032 ∷ 0x3fe7e7a051c98851 ∷
    0x3fe7e7b5ac4dccce ∷ 0x3fe7e7cae1886b21 ∷ 0x3fe7e7dff1dab940 ∷ 0x3fe7e7f4dda4bb8c ∷
    0x3fe7e809a5452a6f ∷ 0x3fe7e81e491977fd ∷ 0x3fe7e832c97dd568 ∷ 0x3fe7e84726cd385d ∷
    0x3fe7e85b61616046 ∷ 0x3fe7e86f7992db72 ∷ 0x3fe7e8836fb90c20 ∷ 0x3fe7e897442a2d72 ∷ []) ∷
    -- 304
    (0x3fe7e8aaf73b5842 ∷ 0x3fe7e8be894087ec ∷ 0x3fe7e8d1fa8c9ef4 ∷ 0x3fe7e8e54b716b94 ∷
    0x3fe7e8f87c3fac3c ∷ 0x3fe7e90b8d4713f6 ∷ 0x3fe7e91e7ed64eb5 ∷ 0x3fe7e931513b058f ∷
    0x3fe7e94404c1e2e6 ∷ 0x3fe7e95699b69670 ∷ 0x3fe7e9691063d93c ∷ 0x3fe7e97b6913719c ∷
    0x3fe7e98da40e36f1 ∷ 0x3fe7e99fc19c1582 ∷ 0x3fe7e9b1c204121c ∷ 0x3fe7e9c3a58c4dba ∷ []) ∷
    -- 320
    (0x3fe7e9d56c7a0911 ∷ 0x3fe7e9e71711a812 ∷ 0x3fe7e9f8a596b558 ∷ 0x3fe7ea0a184be576 ∷
    0x3fe7ea1b6f731a5b ∷ 0x3fe7ea2cab4d667a ∷ 0x3fe7ea3dcc1b100a ∷ 0x3fe7ea4ed21b9414 ∷
    0x3fe7ea5fbd8da991 ∷ 0x3fe7ea708eaf4467 ∷ 0x3fe7ea8145bd985a ∷ 0x3fe7ea91e2f51bf8 ∷
    0x3fe7eaa266918b70 ∷ 0x3fe7eab2d0cdeb5a ∷ 0x3fe7eac321e48b80 ∷ 0x3fe7ead35a0f0986 ∷ []) ∷
    -- 336
    (0x3fe7eae379865396 ∷ 0x3fe7eaf38082aaf6 ∷ 0x3fe7eb036f3ba69b ∷ 0x3fe7eb1345e835aa ∷
    0x3fe7eb2304bea1ef ∷ 0x3fe7eb32abf49247 ∷ 0x3fe7eb423bbf0d04 ∷ 0x3fe7eb51b4527a46 ∷
    0x3fe7eb6115e2a645 ∷ 0x3fe7eb7060a2c38e ∷ 0x3fe7eb7f94c56d44 ∷ 0x3fe7eb8eb27ca947 ∷
    0x3fe7eb9db9f9ea62 ∷ 0x3fe7ebacab6e125a ∷ 0x3fe7ebbb87097406 ∷ 0x3fe7ebca4cfbd558 ∷ []) ∷
    -- 352
    (0x3fe7ebd8fd747165 ∷ 0x3fe7ebe798a1fa46 ∷ 0x3fe7ebf61eb29b24 ∷ 0x3fe7ec048fd3fa03 ∷
    0x3fe7ec12ec3339b4 ∷ 0x3fe7ec2133fcfba2 ∷ 0x3fe7ec2f675d61a2 ∷ 0x3fe7ec3d86800fbb ∷
    0x3fe7ec4b91902de5 ∷ 0x3fe7ec5988b869be ∷ 0x3fe7ec676c22f83a ∷ 0x3fe7ec753bf99754 ∷
    0x3fe7ec82f8658fa5 ∷ 0x3fe7ec90a18fb608 ∷ 0x3fe7ec9e37a06d2c ∷ 0x3fe7ecabbabfa71c ∷ []) ∷
    -- 368
    (0x3fe7ecb92b14e6d4 ∷ 0x3fe7ecc688c741b5 ∷ 0x3fe7ecd3d3fd6104 ∷ 0x3fe7ece10cdd8363 ∷
    0x3fe7ecee338d7e3b ∷ 0x3fe7ecfb4832bf26 ∷ 0x3fe7ed084af24d53 ∷ 0x3fe7ed153bf0cae3 ∷
    0x3fe7ed221b527640 ∷ 0x3fe7ed2ee93b2b6f ∷ 0x3fe7ed3ba5ce6562 ∷ 0x3fe7ed48512f3f36 ∷
    0x3fe7ed54eb807580 ∷ 0x3fe7ed6174e46786 ∷ 0x3fe7ed6ded7d1873 ∷ 0x3fe7ed7a556c308f ∷ []) ∷
    -- 384
    (0x3fe7ed86acd2fe74 ∷ 0x3fe7ed92f3d2782b ∷ 0x3fe7ed9f2a8b3c5c ∷ 0x3fe7edab511d9369 ∷
    0x3fe7edb767a9708c ∷ 0x3fe7edc36e4e72f4 ∷ 0x3fe7edcf652be6cd ∷ 0x3fe7eddb4c60c65c ∷
    0x3fe7ede7240bbb08 ∷ 0x3fe7edf2ec4b1e56 ∷ 0x3fe7edfea53cfaf9 ∷ 0x3fe7ee0a4eff0dd2 ∷
    0x3fe7ee15e9aec6db ∷ 0x3fe7ee2175694a34 ∷ 0x3fe7ee2cf24b710e ∷ 0x3fe7ee386071ca90 ∷ []) ∷
    -- 400
    (0x3fe7ee43bff89cda ∷ 0x3fe7ee4f10fbe5d8 ∷ 0x3fe7ee5a53975c3a ∷ 0x3fe7ee6587e6704b ∷
    0x3fe7ee70ae044cd0 ∷ 0x3fe7ee7bc60bd7ed ∷ 0x3fe7ee86d017b3ef ∷ 0x3fe7ee91cc424031 ∷
    0x3fe7ee9cbaa599e0 ∷ 0x3fe7eea79b5b9cd6 ∷ 0x3fe7eeb26e7de458 ∷ 0x3fe7eebd3425cbed ∷
    0x3fe7eec7ec6c701c ∷ 0x3fe7eed2976aaf32 ∷ 0x3fe7eedd353929fe ∷ 0x3fe7eee7c5f04496 ∷ []) ∷
    -- 416
    (0x3fe7eef249a8270d ∷ 0x3fe7eefcc078be27 ∷ 0x3fe7ef072a79bc19 ∷ 0x3fe7ef1187c29933 ∷
    0x3fe7ef1bd86a9495 ∷ 0x3fe7ef261c88b4da ∷ 0x3fe7ef305433c8c4 ∷ 0x3fe7ef3a7f8267e6 ∷
    0x3fe7ef449e8af34d ∷ 0x3fe7ef4eb163961c ∷ 0x3fe7ef58b8224636 ∷ 0x3fe7ef62b2dcc4db ∷
    0x3fe7ef6ca1a89f42 ∷ 0x3fe7ef76849b2f3a ∷ 0x3fe7ef805bc99bbe ∷ 0x3fe7ef8a2748d990 ∷ []) ∷
    -- 432
    (0x3fe7ef93e72dabca ∷ 0x3fe7ef9d9b8ca472 ∷ 0x3fe7efa7447a250e ∷ 0x3fe7efb0e20a5f2b ∷
    0x3fe7efba745154f2 ∷ 0x3fe7efc3fb62d9af ∷ 0x3fe7efcd77529259 ∷ 0x3fe7efd6e833f619 ∷
    0x3fe7efe04e1a4ed3 ∷ 0x3fe7efe9a918b9a5 ∷ 0x3fe7eff2f942276c ∷ 0x3fe7effc3ea95d3d ∷
    0x3fe7f0057960f4ef ∷ 0x3fe7f00ea97b5d8b ∷ 0x3fe7f017cf0adbd1 ∷ 0x3fe7f020ea218aa8 ∷ []) ∷
    -- 448
    (0x3fe7f029fad15b9e ∷ 0x3fe7f033012c1754 ∷ 0x3fe7f03bfd435dff ∷ 0x3fe7f044ef28a7cd ∷
    0x3fe7f04dd6ed4564 ∷ 0x3fe7f056b4a26042 ∷ 0x3fe7f05f8858fb3d ∷ 0x3fe7f0685221f2e0 ∷
    0x3fe7f071120dfde1 ∷ 0x3fe7f079c82dad86 ∷ 0x3fe7f08274916e0c ∷ 0x3fe7f08b17498715 ∷
    0x3fe7f093b0661c08 ∷ 0x3fe7f09c3ff72c74 ∷ 0x3fe7f0a4c60c947d ∷ 0x3fe7f0ad42b60d33 ∷ []) ∷
    -- 464
    (0x3fe7f0b5b6032cf7 ∷ 0x3fe7f0be200367dc ∷ 0x3fe7f0c680c61004 ∷ 0x3fe7f0ced85a55fa ∷
    0x3fe7f0d726cf4912 ∷ 0x3fe7f0df6c33d7c6 ∷ 0x3fe7f0e7a896d004 ∷ 0x3fe7f0efdc06df92 ∷
    0x3fe7f0f806929465 ∷ 0x3fe7f10028485ced ∷ 0x3fe7f10841368870 ∷ 0x3fe7f110516b4764 ∷
    0x3fe7f11858f4abba ∷ 0x3fe7f12057e0a92b ∷ 0x3fe7f1284e3d159a ∷ 0x3fe7f1303c17a954 ∷ []) ∷
    -- 480
    (0x3fe7f138217dff65 ∷ 0x3fe7f13ffe7d95e5 ∷ 0x3fe7f147d323ce46 ∷ 0x3fe7f14f9f7ded9d ∷
    0x3fe7f15763991cf3 ∷ 0x3fe7f15f1f826984 ∷ 0x3fe7f166d346c516 ∷ 0x3fe7f16e7ef30637 ∷
    0x3fe7f1762293e887 ∷ 0x3fe7f17dbe360cfe ∷ 0x3fe7f18551e5fa36 ∷ 0x3fe7f18cddb01cae ∷
    0x3fe7f19461a0c704 ∷ 0x3fe7f19bddc43249 ∷ 0x3fe7f1a352267e34 ∷ 0x3fe7f1aabed3b16d ∷ []) ∷
    -- 496
    (0x3fe7f1b223d7b9ce ∷ 0x3fe7f1b9813e6c98 ∷ 0x3fe7f1c0d71386c4 ∷ 0x3fe7f1c82562ad2b ∷
    0x3fe7f1cf6c376cd8 ∷ 0x3fe7f1d6ab9d3b39 ∷ 0x3fe7f1dde39f7664 ∷ 0x3fe7f1e514496548 ∷
    0x3fe7f1ec3da637ea ∷ 0x3fe7f1f35fc107ad ∷ 0x3fe7f1fa7aa4d774 ∷ 0x3fe7f2018e5c93ef ∷
    0x3fe7f2089af313c6 ∷ 0x3fe7f20fa07317da ∷ 0x3fe7f2169ee74b71 ∷ 0x3fe7f21d965a4478 ∷ []) ∷
    -- 512
    (0x3fe7f22486d683b0 ∷ 0x3fe7f22b706674e5 ∷ 0x3fe7f23253146f1f ∷ 0x3fe7f2392eeab4df ∷
    0x3fe7f24003f37447 ∷ 0x3fe7f246d238c754 ∷ 0x3fe7f24d99c4b40d ∷ 0x3fe7f2545aa12cb3 ∷
    0x3fe7f25b14d80ff1 ∷ 0x3fe7f261c8732911 ∷ 0x3fe7f268757c3029 ∷ 0x3fe7f26f1bfcca44 ∷
    0x3fe7f275bbfe899e ∷ 0x3fe7f27c558aedc5 ∷ 0x3fe7f282e8ab63ca ∷ 0x3fe7f28975694670 ∷ []) ∷
    -- 528
    (0x3fe7f28ffbcdde5c ∷ 0x3fe7f2967be26236 ∷ 0x3fe7f29cf5aff6da ∷ 0x3fe7f2a3693faf8d ∷
    0x3fe7f2a9d69a8e14 ∷ 0x3fe7f2b03dc982ed ∷ 0x3fe7f2b69ed56d72 ∷ 0x3fe7f2bcf9c71c01 ∷
    0x3fe7f2c34ea74c29 ∷ 0x3fe7f2c99d7eaad2 ∷ 0x3fe7f2cfe655d460 ∷ 0x3fe7f2d6293554dc ∷
    0x3fe7f2dc6625a81c ∷ 0x3fe7f2e29d2f39e8 ∷ 0x3fe7f2e8ce5a6626 ∷ 0x3fe7f2eef9af78f3 ∷ []) ∷
    -- 544
    (0x3fe7f2f51f36aed0 ∷ 0x3fe7f2fb3ef834ce ∷ 0x3fe7f30158fc289c ∷ 0x3fe7f3076d4a98c8 ∷
    0x3fe7f30d7beb84c7 ∷ 0x3fe7f31384e6dd2e ∷ 0x3fe7f319884483c3 ∷ 0x3fe7f31f860c4bae ∷
    0x3fe7f3257e45f991 ∷ 0x3fe7f32b70f943ae ∷ 0x3fe7f3315e2dd206 ∷ 0x3fe7f33745eb3e7e ∷
    0x3fe7f33d283914f8 ∷ 0x3fe7f343051ed37d ∷ 0x3fe7f348dca3ea52 ∷ 0x3fe7f34eaecfbc22 ∷ []) ∷
    -- 560
    (0x3fe7f3547ba99e14 ∷ 0x3fe7f35a4338d7f1 ∷ 0x3fe7f3600584a43e ∷ 0x3fe7f365c294305a ∷
    0x3fe7f36b7a6e9ca1 ∷ 0x3fe7f3712d1afc81 ∷ 0x3fe7f376daa056a0 ∷ 0x3fe7f37c8305a4f4 ∷
    0x3fe7f3822651d4dc ∷ 0x3fe7f387c48bc74a ∷ 0x3fe7f38d5dba50cc ∷ 0x3fe7f392f1e439b6 ∷
    0x3fe7f39881103e3a ∷ 0x3fe7f39e0b450e80 ∷ 0x3fe7f3a390894ec0 ∷ 0x3fe7f3a910e39764 ∷ []) ∷
    -- 576
    (0x3fe7f3ae8c5a751a ∷ 0x3fe7f3b402f468f5 ∷ 0x3fe7f3b974b7e880 ∷ 0x3fe7f3bee1ab5ddc ∷
    0x3fe7f3c449d527d6 ∷ 0x3fe7f3c9ad3b9a02 ∷ 0x3fe7f3cf0be4fcda ∷ 0x3fe7f3d465d78dc6 ∷
    0x3fe7f3d9bb197f45 ∷ 0x3fe7f3df0bb0f8fc ∷ 0x3fe7f3e457a417cc ∷ 0x3fe7f3e99ef8edf3 ∷
    0x3fe7f3eee1b5831a ∷ 0x3fe7f3f41fdfd46e ∷ 0x3fe7f3f9597dd4bb ∷ 0x3fe7f3fe8e956c80 ∷ []) ∷
    -- 592
    (0x3fe7f403bf2c7a00 ∷ 0x3fe7f408eb48d162 ∷ 0x3fe7f40e12f03cbd ∷ 0x3fe7f41336287c36 ∷
    0x3fe7f41854f7460f ∷ 0x3fe7f41d6f6246c0 ∷ 0x3fe7f422856f210b ∷ 0x3fe7f42797236e0f ∷
    0x3fe7f42ca484bd61 ∷ 0x3fe7f431ad989517 ∷ 0x3fe7f436b26471ea ∷ 0x3fe7f43bb2edc73f ∷
    0x3fe7f440af39ff3c ∷ 0x3fe7f445a74e7ae0 ∷ 0x3fe7f44a9b309217 ∷ 0x3fe7f44f8ae593c4 ∷ []) ∷
    -- 608
    (0x3fe7f4547672c5dc ∷ 0x3fe7f4595ddd657b ∷ 0x3fe7f45e412aa6ec ∷ 0x3fe7f463205fb5c8 ∷
    0x3fe7f467fb81b4ff ∷ 0x3fe7f46cd295beec ∷ 0x3fe7f471a5a0e569 ∷ 0x3fe7f47674a831e4 ∷
    0x3fe7f47b3fb0a566 ∷ 0x3fe7f48006bf38ad ∷ 0x3fe7f484c9d8dc3c ∷ 0x3fe7f48989027869 ∷
    0x3fe7f48e4440ed72 ∷ 0x3fe7f492fb991389 ∷ 0x3fe7f497af0fbaea ∷ 0x3fe7f49c5ea9abe4 ∷ []) ∷
    -- 624
    (0x3fe7f4a10a6ba6f0 ∷ 0x3fe7f4a5b25a64be ∷ 0x3fe7f4aa567a9648 ∷ 0x3fe7f4aef6d0e4de ∷
    0x3fe7f4b39361f232 ∷ 0x3fe7f4b82c325872 ∷ 0x3fe7f4bcc146aa52 ∷ 0x3fe7f4c152a37316 ∷
    0x3fe7f4c5e04d36aa ∷ 0x3fe7f4ca6a4871ad ∷ 0x3fe7f4cef0999979 ∷ 0x3fe7f4d373451c42 ∷
    0x3fe7f4d7f24f6113 ∷ 0x3fe7f4dc6dbcc7e5 ∷ 0x3fe7f4e0e591a9af ∷ 0x3fe7f4e559d2586f ∷ []) ∷
    -- 640
    (0x3fe7f4e9ca831f37 ∷ 0x3fe7f4ee37a84246 ∷ 0x3fe7f4f2a145ff05 ∷ 0x3fe7f4f707608c21 ∷
    0x3fe7f4fb69fc1994 ∷ 0x3fe7f4ffc91cd0b2 ∷ 0x3fe7f50424c6d438 ∷ 0x3fe7f5087cfe4055 ∷
    0x3fe7f50cd1c72ac0 ∷ 0x3fe7f5112325a2b7 ∷ 0x3fe7f515711db118 ∷ 0x3fe7f519bbb35867 ∷
    0x3fe7f51e02ea94e0 ∷ 0x3fe7f52246c75c78 ∷ 0x3fe7f526874d9efa ∷ 0x3fe7f52ac4814603 ∷ []) ∷
    -- 656
    (0x3fe7f52efe663518 ∷ 0x3fe7f533350049af ∷ 0x3fe7f53768535b3a ∷ 0x3fe7f53b98633b33 ∷
    0x3fe7f53fc533b527 ∷ 0x3fe7f543eec88ec6 ∷ 0x3fe7f548152587e8 ∷ 0x3fe7f54c384e5a9b ∷
    0x3fe7f5505846bb2f ∷ 0x3fe7f5547512583c ∷ 0x3fe7f5588eb4daba ∷ 0x3fe7f55ca531e5fe ∷
    0x3fe7f560b88d17c6 ∷ 0x3fe7f564c8ca084b ∷ 0x3fe7f568d5ec4a4c ∷ 0x3fe7f56cdff76b0f ∷ []) ∷
    -- 672
    (0x3fe7f570e6eef272 ∷ 0x3fe7f574ead662f3 ∷ 0x3fe7f578ebb139c0 ∷ 0x3fe7f57ce982eeb7 ∷
    0x3fe7f580e44ef478 ∷ 0x3fe7f584dc18b870 ∷ 0x3fe7f588d0e3a2d7 ∷ 0x3fe7f58cc2b316c8 ∷
    0x3fe7f590b18a7244 ∷ 0x3fe7f5949d6d0e3a ∷ 0x3fe7f598865e3e96 ∷ 0x3fe7f59c6c615241 ∷
    0x3fe7f5a04f799339 ∷ 0x3fe7f5a42faa468a ∷ 0x3fe7f5a80cf6ac66 ∷ 0x3fe7f5abe7620023 ∷ []) ∷
    -- 688
    (0x3fe7f5afbeef7846 ∷ 0x3fe7f5b393a24690 ∷ 0x3fe7f5b7657d9806 ∷ 0x3fe7f5bb348494f7 ∷
    0x3fe7f5bf00ba6109 ∷ 0x3fe7f5c2ca221b39 ∷ 0x3fe7f5c690beddf0 ∷ 0x3fe7f5ca5493bf00 ∷
    0x3fe7f5ce15a3cfb4 ∷ 0x3fe7f5d1d3f21cd4 ∷ 0x3fe7f5d58f81aeb4 ∷ 0x3fe7f5d94855892d ∷
    0x3fe7f5dcfe70abb6 ∷ 0x3fe7f5e0b1d61167 ∷ 0x3fe7f5e46288b0fb ∷ 0x3fe7f5e8108b7cdf ∷ []) ∷
    -- 704
    (0x3fe7f5ebbbe16335 ∷ 0x3fe7f5ef648d4dda ∷ 0x3fe7f5f30a92227e ∷ 0x3fe7f5f6adf2c292 ∷
    0x3fe7f5fa4eb20b62 ∷ 0x3fe7f5fdecd2d616 ∷ 0x3fe7f6018857f7bf ∷ 0x3fe7f60521444153 ∷
    0x3fe7f608b79a7fc2 ∷ 0x3fe7f60c4b5d7bf3 ∷ 0x3fe7f60fdc8fface ∷ 0x3fe7f6136b34bd45 ∷
    0x3fe7f616f74e805f ∷ 0x3fe7f61a80dffd31 ∷ 0x3fe7f61e07ebe8f6 ∷ 0x3fe7f6218c74f50a ∷ []) ∷
    -- 720
    (0x3fe7f6250e7dcef5 ∷ 0x3fe7f6288e092075 ∷ 0x3fe7f62c0b198f7b ∷ 0x3fe7f62f85b1be3e ∷
    0x3fe7f632fdd44b3a ∷ 0x3fe7f6367383d138 ∷ 0x3fe7f639e6c2e752 ∷ 0x3fe7f63d57942102 ∷
    0x3fe7f640c5fa0e1e ∷ 0x3fe7f64431f73ae6 ∷ 0x3fe7f6479b8e3002 ∷ 0x3fe7f64b02c17296 ∷
    0x3fe7f64e6793843a ∷ 0x3fe7f651ca06e307 ∷ 0x3fe7f6552a1e099c ∷ 0x3fe7f65887db6f23 ∷ []) ∷
    -- 736
    (0x3fe7f65be341875c ∷ 0x3fe7f65f3c52c29d ∷ 0x3fe7f66293118dd7 ∷ 0x3fe7f665e78052a2 ∷
    0x3fe7f66939a1773f ∷ 0x3fe7f66c89775e9f ∷ 0x3fe7f66fd7046867 ∷ 0x3fe7f673224af0f7 ∷
    0x3fe7f6766b4d5171 ∷ 0x3fe7f679b20ddfb8 ∷ 0x3fe7f67cf68eee84 ∷ 0x3fe7f68038d2cd51 ∷
    0x3fe7f68378dbc87f ∷ 0x3fe7f686b6ac293e ∷ 0x3fe7f689f24635aa ∷ 0x3fe7f68d2bac30bc ∷ []) ∷
    -- 752
    (0x3fe7f69062e05a5e ∷ 0x3fe7f69397e4ef6c ∷ 0x3fe7f696cabc29b3 ∷ 0x3fe7f699fb684003 ∷
    0x3fe7f69d29eb6623 ∷ 0x3fe7f6a05647cce8 ∷ 0x3fe7f6a3807fa22d ∷ 0x3fe7f6a6a89510df ∷
    0x3fe7f6a9ce8a40fd ∷ 0x3fe7f6acf26157a2 ∷ 0x3fe7f6b0141c7704 ∷ 0x3fe7f6b333bdbe82 ∷
    0x3fe7f6b651474a9b ∷ 0x3fe7f6b96cbb3502 ∷ 0x3fe7f6bc861b9495 ∷ 0x3fe7f6bf9d6a7d6f ∷ []) ∷
    -- 768
    (0x3fe7f6c2b2aa00e0 ∷ 0x3fe7f6c5c5dc2d79 ∷ 0x3fe7f6c8d7030f13 ∷ 0x3fe7f6cbe620aec6 ∷
    0x3fe7f6cef3371300 ∷ 0x3fe7f6d1fe483f7e ∷ 0x3fe7f6d507563550 ∷ 0x3fe7f6d80e62f2e3 ∷
    0x3fe7f6db13707404 ∷ 0x3fe7f6de1680b1de ∷ 0x3fe7f6e11795a307 ∷ 0x3fe7f6e416b13b80 ∷
    0x3fe7f6e713d56cbb ∷ 0x3fe7f6ea0f042598 ∷ 0x3fe7f6ed083f527a ∷ 0x3fe7f6efff88dd35 ∷ []) ∷
    -- 784
    (0x3fe7f6f2f4e2ad23 ∷ 0x3fe7f6f5e84ea725 ∷ 0x3fe7f6f8d9cead9b ∷ 0x3fe7f6fbc964a07d ∷
    0x3fe7f6feb7125d4c ∷ 0x3fe7f701a2d9bf1e ∷ 0x3fe7f7048cbc9ea7 ∷ 0x3fe7f70774bcd230 ∷
    0x3fe7f70a5adc2da5 ∷ 0x3fe7f70d3f1c8297 ∷ 0x3fe7f710217fa03f ∷ 0x3fe7f7130207537f ∷
    0x3fe7f715e0b566e9 ∷ 0x3fe7f718bd8ba2c4 ∷ 0x3fe7f71b988bcd0a ∷ 0x3fe7f71e71b7a976 ∷ []) ∷
    -- 800
    (0x3fe7f7214910f97a ∷ 0x3fe7f7241e997c4b ∷ 0x3fe7f726f252eee5 ∷ 0x3fe7f729c43f0c0d ∷
    0x3fe7f72c945f8c51 ∷ 0x3fe7f72f62b62614 ∷ 0x3fe7f7322f448d86 ∷ 0x3fe7f734fa0c74b3 ∷
    0x3fe7f737c30f8b7e ∷ 0x3fe7f73a8a4f7fa8 ∷ 0x3fe7f73d4fcdfcd5 ∷ 0x3fe7f740138cac88 ∷
    0x3fe7f742d58d3631 ∷ 0x3fe7f74595d13f28 ∷ 0x3fe7f748545a6ab5 ∷ 0x3fe7f74b112a5a0f ∷ []) ∷
    -- 816
    (0x3fe7f74dcc42ac63 ∷ 0x3fe7f75085a4fed4 ∷ 0x3fe7f7533d52ec84 ∷ 0x3fe7f755f34e0e8d ∷
    0x3fe7f758a797fc11 ∷ 0x3fe7f75b5a324a34 ∷ 0x3fe7f75e0b1e8c1a ∷ 0x3fe7f760ba5e5300 ∷
    0x3fe7f76367f32e23 ∷ 0x3fe7f76613deaad8 ∷ 0x3fe7f768be225486 ∷ 0x3fe7f76b66bfb4a9 ∷
    0x3fe7f76e0db852d8 ∷ 0x3fe7f770b30db4c7 ∷ 0x3fe7f77356c15e49 ∷ 0x3fe7f775f8d4d150 ∷ []) ∷
    -- 832
    (0x3fe7f77899498df6 ∷ 0x3fe7f77b38211280 ∷ 0x3fe7f77dd55cdb58 ∷ 0x3fe7f78070fe6317 ∷
    0x3fe7f7830b072289 ∷ 0x3fe7f785a37890ae ∷ 0x3fe7f7883a5422b2 ∷ 0x3fe7f78acf9b4c0a ∷
    0x3fe7f78d634f7e57 ∷ 0x3fe7f78ff5722980 ∷ 0x3fe7f7928604bbae ∷ 0x3fe7f7951508a146 ∷
    0x3fe7f797a27f44fb ∷ 0x3fe7f79a2e6a0fc3 ∷ 0x3fe7f79cb8ca68e2 ∷ 0x3fe7f79f41a1b5ea ∷ []) ∷
    -- 848
    (0x3fe7f7a1c8f15ab9 ∷ 0x3fe7f7a44ebab985 ∷ 0x3fe7f7a6d2ff32d9 ∷ 0x3fe7f7a955c02596 ∷
    0x3fe7f7abd6feeef6 ∷ 0x3fe7f7ae56bcea95 ∷ 0x3fe7f7b0d4fb7266 ∷ 0x3fe7f7b351bbdec7 ∷
    0x3fe7f7b5ccff8676 ∷ 0x3fe7f7b846c7be94 ∷ 0x3fe7f7babf15dab3 ∷ 0x3fe7f7bd35eb2cc6 ∷
    0x3fe7f7bfab49053a ∷ 0x3fe7f7c21f30b2e1 ∷ 0x3fe7f7c491a38304 ∷ 0x3fe7f7c702a2c164 ∷ []) ∷
    -- 864
    (0x3fe7f7c9722fb833 ∷ 0x3fe7f7cbe04bb01e ∷ 0x3fe7f7ce4cf7f04c ∷ 0x3fe7f7d0b835be6a ∷
    0x3fe7f7d322065e98 ∷ 0x3fe7f7d58a6b1382 ∷ 0x3fe7f7d7f1651e55 ∷ 0x3fe7f7da56f5bec5 ∷
    0x3fe7f7dcbb1e330c ∷ 0x3fe7f7df1ddfb7f3 ∷ 0x3fe7f7e17f3b88cd ∷ 0x3fe7f7e3df32df7d ∷
    0x3fe7f7e63dc6f477 ∷ 0x3fe7f7e89af8fec4 ∷ 0x3fe7f7eaf6ca33ff ∷ 0x3fe7f7ed513bc85e ∷ []) ∷
    -- 880
    (0x3fe7f7efaa4eeeac ∷ 0x3fe7f7f20204d854 ∷ 0x3fe7f7f4585eb55c ∷ 0x3fe7f7f6ad5db46c ∷
    0x3fe7f7f9010302c8 ∷ 0x3fe7f7fb534fcc5d ∷ 0x3fe7f7fda4453bbd ∷ 0x3fe7f7fff3e47a1d ∷
    0x3fe7f802422eaf61 ∷ 0x3fe7f8048f250214 ∷ 0x3fe7f806dac89771 ∷ 0x3fe7f809251a935e ∷
    0x3fe7f80b6e1c1879 ∷ 0x3fe7f80db5ce480a ∷ 0x3fe7f80ffc324218 ∷ 0x3fe7f81241492556 ∷ []) ∷
    -- 896
    (0x3fe7f81485140f36 ∷ 0x3fe7f816c7941be4 ∷ 0x3fe7f81908ca6643 ∷ 0x3fe7f81b48b807fa ∷
    0x3fe7f81d875e196e ∷ 0x3fe7f81fc4bdb1c1 ∷ 0x3fe7f82200d7e6e0 ∷ 0x3fe7f8243badcd75 ∷
    0x3fe7f826754078f6 ∷ 0x3fe7f828ad90fba0 ∷ 0x3fe7f82ae4a06678 ∷ 0x3fe7f82d1a6fc94f ∷
    0x3fe7f82f4f0032cb ∷ 0x3fe7f8318252b056 ∷ 0x3fe7f833b4684e30 ∷ 0x3fe7f835e5421770 ∷ []) ∷
    -- 912
    (0x3fe7f83814e115fa ∷ 0x3fe7f83a4346528b ∷ 0x3fe7f83c7072d4b9 ∷ 0x3fe7f83e9c67a2ee ∷
    0x3fe7f840c725c273 ∷ 0x3fe7f842f0ae376e ∷ 0x3fe7f845190204e1 ∷ 0x3fe7f84740222cac ∷
    0x3fe7f849660faf93 ∷ 0x3fe7f84b8acb8d39 ∷ 0x3fe7f84dae56c42a ∷ 0x3fe7f84fd0b251d4 ∷
    0x3fe7f851f1df328e ∷ 0x3fe7f85411de6197 ∷ 0x3fe7f85630b0d918 ∷ 0x3fe7f8584e579225 ∷ []) ∷
    -- 928
    (0x3fe7f85a6ad384c0 ∷ 0x3fe7f85c8625a7dc ∷ 0x3fe7f85ea04ef157 ∷ 0x3fe7f860b9505607 ∷
    0x3fe7f862d12ac9af ∷ 0x3fe7f864e7df3f0b ∷ 0x3fe7f866fd6ea7c8 ∷ 0x3fe7f86911d9f493 ∷
    0x3fe7f86b25221508 ∷ 0x3fe7f86d3747f7c2 ∷ 0x3fe7f86f484c8a58 ∷ 0x3fe7f8715830b95d ∷
    0x3fe7f87366f57063 ∷ 0x3fe7f875749b99f9 ∷ 0x3fe7f87781241fb1 ∷ 0x3fe7f8798c8fea24 ∷ []) ∷
    -- 944
    (0x3fe7f87b96dfe0e5 ∷ 0x3fe7f87da014ea94 ∷ 0x3fe7f87fa82fecd6 ∷ 0x3fe7f881af31cc52 ∷
    0x3fe7f883b51b6cc2 ∷ 0x3fe7f885b9edb0e3 ∷ 0x3fe7f887bda97a7e ∷ 0x3fe7f889c04faa6c ∷
    0x3fe7f88bc1e12094 ∷ 0x3fe7f88dc25ebbe9 ∷ 0x3fe7f88fc1c95a72 ∷ 0x3fe7f891c021d948 ∷
    0x3fe7f893bd691495 ∷ 0x3fe7f895b99fe798 ∷ 0x3fe7f897b4c72ca8 ∷ 0x3fe7f899aedfbd2f ∷ []) ∷
    -- 960
    (0x3fe7f89ba7ea71b4 ∷ 0x3fe7f89d9fe821d4 ∷ 0x3fe7f89f96d9a447 ∷ 0x3fe7f8a18cbfcee1 ∷
    0x3fe7f8a3819b7694 ∷ 0x3fe7f8a5756d6f6b ∷ 0x3fe7f8a768368c9a ∷ 0x3fe7f8a959f7a06c ∷
    0x3fe7f8ab4ab17c53 ∷ 0x3fe7f8ad3a64f0e0 ∷ 0x3fe7f8af2912cdcc ∷ 0x3fe7f8b116bbe1f2 ∷
    0x3fe7f8b30360fb54 ∷ 0x3fe7f8b4ef02e71b ∷ 0x3fe7f8b6d9a27199 ∷ 0x3fe7f8b8c3406649 ∷ []) ∷
    -- 976
    (0x3fe7f8baabdd8fd0 ∷ 0x3fe7f8bc937ab801 ∷ 0x3fe7f8be7a18a7d6 ∷ 0x3fe7f8c05fb82780 ∷
    0x3fe7f8c24459fe55 ∷ 0x3fe7f8c427fef2e4 ∷ 0x3fe7f8c60aa7cae4 ∷ 0x3fe7f8c7ec554b46 ∷
    0x3fe7f8c9cd08382a ∷ 0x3fe7f8cbacc154e5 ∷ 0x3fe7f8cd8b816401 ∷ 0x3fe7f8cf6949273d ∷
    0x3fe7f8d146195f94 ∷ 0x3fe7f8d321f2cd32 ∷ 0x3fe7f8d4fcd62f82 ∷ 0x3fe7f8d6d6c44527 ∷ []) ∷
    -- 992
    (0x3fe7f8d8afbdcc00 ∷ 0x3fe7f8da87c38129 ∷ 0x3fe7f8dc5ed620f7 ∷ 0x3fe7f8de34f66703 ∷
    0x3fe7f8e00a250e20 ∷ 0x3fe7f8e1de62d064 ∷ 0x3fe7f8e3b1b0672a ∷ 0x3fe7f8e5840e8b05 ∷
    0x3fe7f8e7557df3d5 ∷ 0x3fe7f8e7557df3d5 ∷ 0x3fe7f8e7557df3d5 ∷ 0x3fe7f8e7557df3d5 ∷
    0x3fe7f8e7557df3d5 ∷ 0x3fe7f8e7557df3d5 ∷ 0x3fe7f8e7557df3d5 ∷ 0x3fe7f8e7557df3d5 ∷ []) ∷
    []

unfoldable pub sinh_degree_minus_one : ℕ → Float
sinh_degree_minus_one s = entry bits (min s 1000)
