-- RKC's `omega_one` for s = 2 to 200, as bit patterns: the table of document 01, "ln, sinh and cosh", from the build that docs/ names.
use Rattle.std.specs.Prelude.{ℕ, ◌-◌, min, cond, List, [], ◌∷◌, leb, get_or, Float}
use Rattle.std.specs.Float.{binary64}
use Rattle.std.specs.Float.Ieee.{of_bits}
use Rattle.rkc_omega_one.specs.Beyond.{omega_one_beyond}

unfoldable pub omega_bits : List ℕ
omega_bits =
    0x3ff09d89d89d89e0 ∷ 0x3fd8ae7450ae744c ∷ 0x3fca3c94b43e600e ∷ 0x3fc05f2d9b007b4d ∷ 0x3fb66eebc0804d5f ∷ 0x3fb0595b4a5e5cac ∷
    0x3fa8e78535f1be31 ∷ 0x3fa39b8d88c62ae1 ∷ 0x3f9faf0e89203f6f ∷ 0x3f9a22cbefc9e91f ∷ 0x3f95ee20b866f776 ∷ 0x3f92aa57dda2ffe6 ∷
    0x3f90147ceae9f41a ∷ 0x3f8bfec3b9e7ddae ∷ 0x3f8897451cc2c666 ∷ 0x3f85c5c29d1e9a10 ∷ 0x3f8369a90ae0582a ∷ 0x3f816aca1619b2ee ∷
    0x3f7f6dc800e5ec64 ∷ 0x3f7c7ff0af0f1209 ∷ 0x3f79f64f575a2cf7 ∷ 0x3f77bfc97e46ea74 ∷ 0x3f75cec4f3e45e44 ∷ 0x3f7418543a9f0cd2 ∷
    0x3f72939b06639e86 ∷ 0x3f71395a7296e155 ∷ 0x3f700399bef53b9f ∷ 0x3f6ddac7a0d0edb4 ∷ 0x3f6be527fe719d70 ∷ 0x3f6a1f5c99c3f0d1 ∷
    0x3f68838061e809be ∷ 0x3f670c8fdd16dace ∷ 0x3f65b641db3dbb15 ∷ 0x3f647ce7ec5d8d82 ∷ 0x3f635d54e618ee47 ∷ 0x3f6254c82ce0290e ∷
    0x3f6160dcc2d4f57a ∷ 0x3f607f7b5877983c ∷ 0x3f5f5d9d8d9b8cc8 ∷ 0x3f5dda74f7965b35 ∷ 0x3f5c72a4f61a5fb9 ∷ 0x3f5b23a950e5c34e ∷
    0x3f59eb46425eae0e ∷ 0x3f58c77ee770410f ∷ 0x3f57b68d20580550 ∷ 0x3f56b6daa42e63ed ∷ 0x3f55c6fb14826f3a ∷ 0x3f54e5a6e79b3466 ∷
    0x3f5411b70754058d ∷ 0x3f534a21087ede3f ∷ 0x3f528df3e388e81e ∷ 0x3f51dc551b0891e4 ∷ 0x3f51347e400f38b7 ∷ 0x3f5095bac6b78f3c ∷
    0x3f4ffecc3f234381 ∷ 0x3f4ee1d418ac0da7 ∷ 0x3f4dd37a4f864ed3 ∷ 0x3f4cd2c333847686 ∷ 0x3f4bdec7e3f073d9 ∷ 0x3f4af6b44783def2 ∷
    0x3f4a19c53ea79383 ∷ 0x3f49474708a1b9f6 ∷ 0x3f487e93d55fa3df ∷ 0x3f47bf127e688270 ∷ 0x3f47083562418e51 ∷ 0x3f4659795e2ebec6 ∷
    0x3f45b264e2c31bf8 ∷ 0x3f451287202a973d ∷ 0x3f447977477bb6c7 ∷ 0x3f43e6d3deb697ce ∷ 0x3f435a422561189f ∷ 0x3f42d36d87f13c7e ∷
    0x3f425207206e75e0 ∷ 0x3f41d5c542e3989a ∷ 0x3f415e6314643154 ∷ 0x3f40eba02b8ea42d ∷ 0x3f407d403992d7fe ∷ 0x3f40130abae2013b ∷
    0x3f3f59955d89216c ∷ 0x3f3e949caa52637d ∷ 0x3f3dd6cde4236f24 ∷ 0x3f3d1fd12c2942b7 ∷ 0x3f3c6f53d6efaa45 ∷ 0x3f3bc5080eecc2a2 ∷
    0x3f3b20a47e9d30b4 ∷ 0x3f3a81e4017fdd37 ∷ 0x3f39e8855b526849 ∷ 0x3f39544af4fe60fe ∷ 0x3f38c4fa9eb76a17 ∷ 0x3f383a5d56d5b549 ∷
    0x3f37b43f15035e36 ∷ 0x3f37326e995f1ff4 ∷ 0x3f36b4bd3f3d55be ∷ 0x3f363afed33a50e9 ∷ 0x3f35c5096c57e40c ∷ 0x3f3552b547e531df ∷
    0x3f34e3dca7f78f9d ∷ 0x3f34785bb43fa68f ∷ 0x3f3410105d09dad1 ∷ 0x3f33aada403f668c ∷ 0x3f33489a903f0da7 ∷ 0x3f32e933fc69a355 ∷
    0x3f328c8a9b40e718 ∷ 0x3f323283d5f9b054 ∷ 0x3f31db06556663cf ∷ 0x3f3185f9f01f576e ∷ 0x3f31334799d1f312 ∷ 0x3f30e2d953a10f36 ∷
    0x3f30949a1d82d058 ∷ 0x3f304875e889b0f4 ∷ 0x3f2ffcb3140fe887 ∷ 0x3f2f6c655efcad8e ∷ 0x3f2edfdfa68efc9e ∷ 0x3f2e570063e6e045 ∷
    0x3f2dd1a7808d0c30 ∷ 0x3f2d4fb643a2642e ∷ 0x3f2cd10f402be0a6 ∷ 0x3f2c55964467e80d ∷ 0x3f2bdd304a1b8d6c ∷ 0x3f2b67c367c7cb92 ∷
    0x3f2af536c2b6748d ∷ 0x3f2a857281d23481 ∷ 0x3f2a185fc13ba716 ∷ 0x3f29ade8868fb4df ∷ 0x3f2945f7b5d443b3 ∷ 0x3f28e07907008e93 ∷
    0x3f287d58fc178349 ∷ 0x3f281c84d7ca7a3c ∷ 0x3f27bdea949df4eb ∷ 0x3f276178dc85644d ∷ 0x3f27071f00f1a7d8 ∷ 0x3f26aeccf3497e92 ∷
    0x3f2658733dc70538 ∷ 0x3f260402fcb29cbd ∷ 0x3f25b16dd7f76a12 ∷ 0x3f2560a5fd0b7935 ∷ 0x3f25119e19266220 ∷ 0x3f24c44953c26aa3 ∷
    0x3f24789b4963f577 ∷ 0x3f242e8806a2d944 ∷ 0x3f23e60403721b99 ∷ 0x3f239f041ea2be43 ∷ 0x3f23597d999e5a48 ∷ 0x3f2315661455f0ce ∷
    0x3f22d2b38962decb ∷ 0x3f22915c4a56bc41 ∷ 0x3f225156fc378c1c ∷ 0x3f22129a94265c88 ∷ 0x3f21d51e542db8dd ∷ 0x3f2198d9c8359ee5 ∷
    0x3f215dc4c31b93f1 ∷ 0x3f2123d75bec7db5 ∷ 0x3f20eb09eb3ec190 ∷ 0x3f20b35508aab2ba ∷ 0x3f207cb1886069ec ∷ 0x3f20471878d8604c ∷
    0x3f201283209f1aa0 ∷ 0x3f1fbdd5f87125c7 ∷ 0x3f1f589378381f92 ∷ 0x3f1ef532858ba2f1 ∷ 0x3f1e93a745bcd453 ∷ 0x3f1e33e63aebdab9 ∷
    0x3f1dd5e440a5a478 ∷ 0x3f1d799688a5907b ∷ 0x3f1d1ef297bab405 ∷ 0x3f1cc5ee42cd64ce ∷ 0x3f1c6e7fac05a170 ∷ 0x3f1c189d400ea640 ∷
    0x3f1bc43db377cc6a ∷ 0x3f1b71580030741d ∷ 0x3f1b1fe3631e0be7 ∷ 0x3f1acfd759cbea9a ∷ 0x3f1a812ba0318513 ∷ 0x3f1a33d82e904dc6 ∷
    0x3f19e7d537671604 ∷ 0x3f199d1b257a2021 ∷ 0x3f1953a299ee9f14 ∷ 0x3f190b646a7951a5 ∷ 0x3f18c4599f9f7e62 ∷ 0x3f187e7b7308e2f0 ∷
    0x3f1839c34de1dc9e ∷ 0x3f17f62ac74df592 ∷ 0x3f17b3aba2e8aa21 ∷ 0x3f17723fcf55ea9a ∷ 0x3f1731e164df1b0b ∷ 0x3f16f28aa41e35bb ∷
    0x3f16b435f4b4fbf5 ∷ 0x3f1676dde410af6b ∷ 0x3f163a7d2439a700 ∷ 0x3f15ff0e8aacfbcc ∷ 0x3f15c48d0f42744e ∷ 0x3f158af3cb1b05f9 ∷
    0x3f15523df79a50a0 ∷ 0x3f151a66ed6964b2 ∷ 0x3f14e36a2381c6b6 ∷ 0x3f14ad432e41f7fe ∷ 0x3f1477edbe8a0551 ∷ 0x3f144365a0dfd839 ∷
    0x3f140fa6bc9bc573 ∷ []

-- a count outside 2 to 200 reads the nearest entry
unfoldable pub omega : ℕ → Float
omega s = of_bits binary64 (get_or omega_bits (min s 200 - 2) 0)

-- To 1000, for the start of family 8: document 02, CR 7. Family 1 keeps the 199 entries above.
unfoldable pub extended : ℕ → Float
extended s = cond (leb s 200) (omega s) (omega_one_beyond (s - 200))
